-- The facts of a code list that refusals 6, 7, 24 and 8 and the flattener need.
use Rattle.std.specs.Prelude.{ℕ, ◌+◌, ◌*◌, ◌%◌, ◌^◌, Bool, true, false, cond, ◌&&◌, List, length, get_or, leb, eqb, Result, Ok, Err}
use Rattle.std.proofs.Math.Option.{Option, none, some}
use Rattle.cells.specs.Cells.{tag_of}
use Rattle.files.specs.Code.{Code, done, neutral, return, call, unless_false, make_cont}
use Rattle.files.specs.Reading.{Got, got, refused}
use Rattle.files.specs.Entries.{Entry, constant, global, template}
use Rattle.files.specs.Grammar.{is_empty, is_open, is_closed, entry_of, each_neutral}
use Rattle.files.specs.Flat.{flat, offsets_fit}
use Rattle.lists.specs.Sets.{unite}
use Rattle.lists.specs.declared.Class.{Class}
use Rattle.lists.specs.declared.Class.TheVariants.{Empty, Open, Closed, Neither}
use Rattle.lists.specs.declared.Facts.{Facts}
use Rattle.files.specs.declared.Refusal.{Refusal}
use Rattle.files.specs.Refusal.{refusal}
use Rattle.cells.specs.declared.BitPlace.{BitPlace}

unfoldable pub says_empty : Class → Bool
says_empty Empty = true
says_empty Open = false
says_empty Closed = false
says_empty Neither = false

unfoldable pub says_open : Class → Bool
says_open Empty = false
says_open Open = true
says_open Closed = false
says_open Neither = false

unfoldable pub says_closed : Class → Bool
says_closed Empty = false
says_closed Open = false
says_closed Closed = true
says_closed Neither = false

abbrev pub class_by : Bool → Bool → Bool → Class
class_by e o k = cond e Empty (cond o Open (cond k Closed Neither))

unfoldable pub class_of : Code → Class
class_of c = class_by (is_empty c) (is_open c) (is_closed c)

-- what a table's slot holds suits code 6 (a constant's cell), 7 (a template), 8 and 9 (a global)
unfoldable pub slot_fits : ℕ → ℕ → Bool
slot_fits op slot =
    cond (eqb op 6) (leb 1 (tag_of slot) && leb (tag_of slot) 6) (cond (eqb op 7) (eqb (tag_of slot) 12) (eqb (tag_of slot) 11))

-- the first operand n of a neutral code is an index that suits it; index 0 is never usable
unfoldable pub slot_named : List ℕ → ℕ → ℕ → ℕ → Bool
slot_named table own op n = cond (leb op 9) (cond (eqb n 0) false (slot_fits op (get_or table (256 * own + n) 0))) true

-- 7, by the table's row of template own
unfoldable pub slots_fit : List ℕ → ℕ → Code → Bool
unfolding each_neutral
slots_fit table own c = each_neutral (slot_named table own) c

-- the sets that the neutral codes of a list give with their first operands, all together
unfoldable pub unite_neutral : (ℕ → ℕ → ℕ) → Code → ℕ
unite_neutral f done = 0
unite_neutral f (neutral op ns r) = unite (f op (get_or ns 0 0)) (unite_neutral f r)
unite_neutral f (return r) = unite_neutral f r
unite_neutral f (call n r) = unite_neutral f r
unite_neutral f (unless_false x y r) = unite (unite (unite_neutral f x) (unite_neutral f y)) (unite_neutral f r)
unite_neutral f (make_cont n x r) = unite (unite_neutral f x) (unite_neutral f r)

-- the template that a neutral code names, if it is a closure whose entry suits it, as a set
unfoldable pub slot_closes : List ℕ → ℕ → ℕ → ℕ → ℕ
slot_closes table own op n = cond (eqb op 7) (cond (slot_named table own op n) (2 ^ (get_or table (256 * own + n) 0 % 64)) 0) 0

-- for 24: the templates that closures of a list name, by the table's row of template own
unfoldable pub slots_close : List ℕ → ℕ → Code → ℕ
unfolding unite_neutral
slots_close table own c = unite_neutral (slot_closes table own) c

-- the same by a template's entries
unfoldable pub entry_set : Option Entry → ℕ
entry_set none = 0
entry_set (some (constant t x)) = 0
entry_set (some (global g)) = 0
entry_set (some (template t)) = 2 ^ t

unfoldable pub index_closes : List Entry → ℕ → ℕ → ℕ
index_closes es op n = cond (eqb op 7) (entry_set (entry_of es n)) 0

unfoldable pub indices_close : List Entry → Code → ℕ
unfolding unite_neutral
indices_close es c = unite_neutral (index_closes es) c

unfoldable pub facts_of : List ℕ → ℕ → Code → Facts
facts_of table own c =
    record { class = class_of c; size = length (flat c); named = slots_fit table own c; fits = offsets_fit c; closes = slots_close table own c }

-- what was read, without the code
unfoldable pub listed : List ℕ → ℕ → Got Code → Result (BitPlace × Facts) (Refusal BitPlace)
listed table own (got c q) = Ok (record { 0 = q }, facts_of table own c)
listed table own (refused n p) = Err (refusal n (record { 0 = p }))
