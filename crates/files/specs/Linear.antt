-- Linear files (document 01, 'Two files'): the bytes of one, and reading one (refusals 1, 2, 3 and 5).
use Rattle.std.specs.Prelude.{ℕ, zero, suc, ◌+◌, ◌*◌, ◌/◌, ◌%◌, ◌^◌, cond, ◌&&◌, List, [], ◌∷◌, ◌++◌, length, get_or, take, drop, leb}
use Rattle.cells.specs.Numbers.{too_long, cut_field}
use Rattle.files.specs.Entries.{Entry, constant, global, template, then, field, valid, tag_width, entries_at, to_byte, zero_bits, nothing_more}
use Rattle.files.specs.Reading.{Got, got, refused}
use Rattle.files.specs.Tree.{Template}
use Rattle.files.specs.Flat.{flat}

-- ---- the bytes
-- the w bits of v, the highest first
unfoldable pub bits_of : ℕ → ℕ → List ℕ
bits_of zero v = []
bits_of (suc w) v = v / 2 ^ w % 2 ∷ bits_of w v

unfoldable pub entry_bits : Entry → List ℕ
unfolding bits_of
entry_bits (constant t x) = bits_of 2 1 ++ (bits_of 3 t ++ bits_of (tag_width t) x)
entry_bits (global g) = bits_of 2 2 ++ bits_of 8 g
entry_bits (template t) = bits_of 2 3 ++ bits_of 8 t

unfoldable pub entries_bits : List Entry → List ℕ
entries_bits [] = []
entries_bits (e ∷ es) = entry_bits e ++ entries_bits es

-- the byte that the first eight bits are; bits that are not there are zero
unfoldable pub byte_of : List ℕ → ℕ
byte_of b =
    128 * get_or b 0 0 + 64 * get_or b 1 0 + 32 * get_or b 2 0 + 16 * get_or b 3 0 + 8 * get_or b 4 0 + 4 * get_or b 5 0 + 2 * get_or b 6 0 + get_or b 7 0

unfoldable pub bytes_from : ℕ → List ℕ → List ℕ
bytes_from zero b = []
bytes_from (suc n) b = byte_of b ∷ bytes_from n (drop 8 b)

-- bits as bytes, with zero bits to the last byte
unfoldable pub bytes_of : List ℕ → List ℕ
bytes_of b = bytes_from ((length b + 7) / 8) b

-- a length in three bytes
abbrev pub three_bytes : ℕ → List ℕ
three_bytes n = n / 65536 ∷ n / 256 % 256 ∷ n % 256 ∷ []

unfoldable pub template_bytes : Template → List ℕ
template_bytes t = length t.entries ∷ bytes_of (entries_bits t.entries) ++ (three_bytes (length (flat t.code)) ++ flat t.code)

unfoldable pub templates_bytes : List Template → List ℕ
templates_bytes [] = []
templates_bytes (t ∷ ts) = template_bytes t ++ templates_bytes ts

unfoldable pub linear_file : List Template → List ℕ
linear_file ts = length ts ∷ templates_bytes ts

-- ---- reading
-- its entries, the first byte of its code, the code
pub record Linear : Type 0 where
  pub entries : List Entry
  pub start : ℕ
  pub code : List ℕ

-- the n code bytes at p, which stands on a byte; 2 at the first that is missing
unfoldable pub code_at : List ℕ → List Entry → ℕ → ℕ → Got Linear
code_at s es n p =
    cond (leb (p + 8 * n) (8 * length s)) (got (record { entries = es; start = p / 8; code = take n (drop (p / 8) s) }) (p + 8 * n))
    (refused cut_field (8 * length s))

-- template own of T at p
unfoldable pub linear_template_at : List ℕ → ℕ → ℕ → ℕ → Got Linear
linear_template_at s own T p =
    then (field s p 8)
    (λ n q. then (entries_at s own T n q) (λ es r. then (zero_bits s (to_byte r) r es) (λ es u. then (field s u 24) (λ k v. code_at s es k v))))

unfoldable pub linear_templates_at : List ℕ → ℕ → ℕ → ℕ → ℕ → Got (List Linear)
linear_templates_at s T own zero p = got [] p
linear_templates_at s T own (suc n) p = then (linear_template_at s own T p) (λ t q. then (linear_templates_at s T (own + 1) n q) (λ ts r. got (t ∷ ts) r))

unfoldable pub linear_read : List ℕ → Got (List Linear)
linear_read s =
    cond (leb (length s) 262144)
    (then (field s 0 8) (λ T p. valid 0 (leb 1 T && leb T 64) (then (linear_templates_at s T 0 T p) (λ ts q. nothing_more s q ts))))
    (refused too_long 0)
