-- How many bits lists, instructions and templates take, and that they are bits. Assumes nothing.
use Rattle.std.specs.Prelude.{ℕ, ◌+◌, ◌*◌, max, ◌≡◌, refl, List, [], ◌∷◌, ◌++◌, length}
use Rattle.std.proofs.Common.{arith, length-append}
use Rattle.files.specs.Code.{Code, done, neutral, return, call, unless_false, make_cont, Instr, neutral_i, return_i, call_i, unless_i, cont_i, put, bits}
use Rattle.files.specs.laws.ReadingLaws.{bits_i}
use Rattle.files.specs.Linear.{entries_bits}
use Rattle.files.specs.Tree.{Template}
use Rattle.readback.specs.laws.Bits.{AreBits, length_bits}
use Rattle.readback.specs.laws.Entries.{entries_are}
use Rattle.readback.specs.laws.Lists.{none_are, bits_are, append_are}
use Rattle.tree_file.specs.File.{operands_bits, list_bits, instr_bits, template_bits, templates_bits, file_bits, levels, levels_i}

pub operands_length : (ns : List ℕ) → length (operands_bits ns) ≡ 8 * length ns
unfolding operands_bits
operands_length [] = refl
operands_length (n ∷ ns) = simp (length-append, length_bits, operands_length ns) (omega arith)

-- a list's bits are as many as `bits` says
pub list_length : (c : Code) → length (list_bits c) ≡ bits c
unfolding list_bits bits
list_length done = length_bits 5 _
list_length (neutral op ns r) = simp (length-append, length_bits, operands_length ns, list_length r) (omega arith)
list_length (return r) = simp (length-append, length_bits, list_length r) (omega arith)
list_length (call n r) = simp (length-append, length_bits, list_length r) (omega arith)
list_length (unless_false x y r) = simp (length-append, length_bits, list_length x, list_length y, list_length r) (omega arith)
list_length (make_cont n x r) = simp (length-append, length_bits, list_length x, list_length r) (omega arith)

pub list_put : (i : Instr) (c : Code) → list_bits (put i c) ≡ instr_bits i ++ list_bits c
unfolding list_bits instr_bits put
list_put (neutral_i op ns) c = refl
list_put return_i c = refl
list_put (call_i n) c = refl
list_put (unless_i x y) c = refl
list_put (cont_i n x) c = refl

pub levels_put : (i : Instr) (c : Code) → levels (put i c) ≡ max (levels_i i) (levels c)
unfolding levels levels_i put
levels_put (neutral_i op ns) c = omega arith
levels_put return_i c = omega arith
levels_put (call_i n) c = omega arith
levels_put (unless_i x y) c = refl
levels_put (cont_i n x) c = refl

pub instr_length : (i : Instr) → length (instr_bits i) ≡ bits_i i
unfolding instr_bits bits_i
instr_length (neutral_i op ns) = simp (length-append, length_bits, operands_length ns)
instr_length return_i = length_bits 5 _
instr_length (call_i n) = simp (length-append, length_bits)
instr_length (unless_i x y) = simp (length-append, length_bits, list_length x, list_length y) (omega arith)
instr_length (cont_i n x) = simp (length-append, length_bits, list_length x) (omega arith)

pub template_length : (t : Template) → length (template_bits t) ≡ 8 + length (entries_bits t.entries) + bits t.code
unfolding template_bits
template_length t = simp (length-append, length_bits, list_length t.code) (omega arith)

-- ---- bits are 0 or 1
pub operands_are : (ns : List ℕ) → AreBits (operands_bits ns)
unfolding operands_bits
operands_are [] = none_are
operands_are (n ∷ ns) = append_are (bits_are 8 n) (operands_are ns)

pub list_are : (c : Code) → AreBits (list_bits c)
unfolding list_bits
list_are done = bits_are 5 _
list_are (neutral op ns r) = append_are (append_are (bits_are 5 _) (operands_are ns)) (list_are r)
list_are (return r) = append_are (bits_are 5 _) (list_are r)
list_are (call n r) = append_are (append_are (bits_are 5 _) (bits_are 8 n)) (list_are r)
list_are (unless_false x y r) = append_are (append_are (bits_are 5 _) (append_are (list_are x) (list_are y))) (list_are r)
list_are (make_cont n x r) = append_are (append_are (bits_are 5 _) (append_are (bits_are 8 n) (list_are x))) (list_are r)

pub template_are : (t : Template) → AreBits (template_bits t)
unfolding template_bits
template_are t = append_are (bits_are 8 (length t.entries)) (append_are (entries_are t.entries) (list_are t.code))

pub templates_are : (ts : List Template) → AreBits (templates_bits ts)
unfolding templates_bits
templates_are [] = none_are
templates_are (t ∷ ts) = append_are (template_are t) (templates_are ts)

pub file_are : (ts : List Template) → AreBits (file_bits ts)
unfolding file_bits
file_are ts = append_are (bits_are 8 (length ts)) (templates_are ts)
