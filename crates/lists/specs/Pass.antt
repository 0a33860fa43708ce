-- The facts of a list in one pass: what each instruction adds, from the first to the last.
use Rattle.std.specs.Prelude.{ℕ, zero, suc, ◌+◌, ◌≤◌, ◌≡◌, Bool, true, false, cond, ◌&&◌, ◌||◌, List, [], ◌∷◌, length, get_or, ltb, eqb, Result, Ok, Err}
use Rattle.fields.specs.Field.{field_at}
use Rattle.cells.specs.declared.BitPlace.{BitPlace}
use Rattle.files.specs.Codes.{shape_of}
use Rattle.files.specs.Code.{Code, done, neutral, return, call, unless_false, make_cont, Instr, neutral_i, return_i, call_i, unless_i, cont_i}
use Rattle.files.specs.Reading.{Got, got, refused, Head, stop, item, bad, bottom, below, shaped, head_at, deep_of, list_at}
use Rattle.files.specs.Flat.{fits_offset, arms_fit}
use Rattle.lists.specs.declared.Class.{Class}
use Rattle.lists.specs.declared.Class.TheVariants.{Empty, Open, Closed, Neither as NoClass}
use Rattle.lists.specs.declared.Facts.{Facts}
use Rattle.lists.specs.declared.Kind.{Kind}
use Rattle.lists.specs.declared.Kind.TheVariants.{Neutral, Ending, SavesOpen, SavesClosed, SavesNeither, Neither}
use Rattle.lists.specs.declared.Added.{Added}
use Rattle.lists.specs.declared.Classes.{Classes}
use Rattle.lists.specs.declared.State.{State}
use Rattle.lists.specs.Sets.{unite}
use Rattle.lists.specs.Facts.{says_open, says_closed, slot_named, slot_closes, facts_of}
use Rattle.files.specs.declared.Refusal.{Refusal}
use Rattle.files.specs.Refusal.{refusal}
use Rattle.lists.specs.declared.Item.{Item}
use Rattle.lists.specs.declared.Item.TheVariants.{End, More}

-- ---- one instruction
-- without lists: its code, how many operands it has, the first of them
unfoldable pub simple_added : List ℕ → ℕ → ℕ → ℕ → ℕ → Added
simple_added table own v k n =
    cond (ltb v 6)
    (record { kind = Ending; size = 1 + k; named = true; fits = true; closes = 0 })
    (record { kind = Neutral; size = 1 + k; named = slot_named table own v n; fits = true; closes = slot_closes table own v n })

-- unless-false, by the classes of its arms
unfoldable pub conditional_kind : Class → Class → Kind
conditional_kind x y = cond (says_open x && says_open y) Neutral (cond (says_closed x && says_closed y) Ending Neither)

-- by the class of the first arm and the sizes of both
unfoldable pub conditional_size : Class → ℕ → ℕ → ℕ
conditional_size class x y = cond (says_closed class) 3 6 + x + y

unfoldable pub conditional_added : Facts → Facts → Added
conditional_added x y =
    record {
      kind = conditional_kind x.class y.class;
      size = conditional_size x.class x.size y.size;
      named = x.named && y.named;
      fits = arms_fit (says_closed x.class) x.size y.size && (x.fits && y.fits);
      closes = unite x.closes y.closes;
    }

-- make-cont, by the class of its saved list
unfoldable pub save_kind : Class → Kind
save_kind Empty = SavesOpen
save_kind Open = SavesOpen
save_kind Closed = SavesClosed
save_kind NoClass = SavesNeither

unfoldable pub save_added : Facts → Added
save_added x = record { kind = save_kind x.class; size = 4 + x.size; named = x.named; fits = x.fits; closes = x.closes }

unfoldable pub added_by : List ℕ → ℕ → Instr → Added
added_by table own (neutral_i op ns) =
    record {
      kind = Neutral;
      size = 1 + length ns;
      named = slot_named table own op (get_or ns 0 0);
      fits = true;
      closes = slot_closes table own op (get_or ns 0 0);
    }
added_by table own return_i = record { kind = Ending; size = 1; named = true; fits = true; closes = 0 }
added_by table own (call_i n) = record { kind = Ending; size = 2; named = true; fits = true; closes = 0 }
added_by table own (unless_i x y) = conditional_added (facts_of table own x) (facts_of table own y)
added_by table own (cont_i n x) = save_added (facts_of table own x)

-- ---- what is known of a list after one more instruction
unfoldable pub classes_after : Kind → Classes → Classes
classes_after Neutral c = record { empty = c.opened; opened = c.opened; closed = c.closed }
classes_after Ending c = record { empty = c.closed; opened = NoClass; closed = NoClass }
classes_after SavesOpen c = record { empty = NoClass; opened = NoClass; closed = c.opened }
classes_after SavesClosed c = record { empty = NoClass; opened = NoClass; closed = c.closed }
classes_after SavesNeither c = record { empty = NoClass; opened = NoClass; closed = NoClass }
classes_after Neither c = record { empty = NoClass; opened = NoClass; closed = NoClass }

unfoldable pub is_save : Kind → Bool
is_save Neutral = false
is_save Ending = false
is_save SavesOpen = true
is_save SavesClosed = true
is_save SavesNeither = true
is_save Neither = false

unfoldable pub state_after : State → Added → State
state_after st o =
    record {
      classes = classes_after o.kind st.classes;
      size = st.size + o.size;
      seen = st.seen || is_save o.kind;
      tail = cond st.seen (st.tail + o.size) st.tail;
      named = st.named && o.named;
      fits = st.fits && o.fits;
      closes = unite st.closes o.closes;
    }

unfoldable pub begun : State
begun =
    record {
      classes = record { empty = Empty; opened = Open; closed = Closed };
      size = 0;
      seen = false;
      tail = 0;
      named = true;
      fits = true;
      closes = 0;
    }

unfoldable pub finish : State → Facts
finish st =
    record { class = st.classes.empty; size = st.size; named = st.named; fits = st.fits && fits_offset st.tail; closes = st.closes }

unfoldable pub run : List ℕ → ℕ → Code → State → State
run table own done st = st
run table own (neutral op ns r) st = run table own r (state_after st (added_by table own (neutral_i op ns)))
run table own (return r) st = run table own r (state_after st (added_by table own return_i))
run table own (call n r) st = run table own r (state_after st (added_by table own (call_i n)))
run table own (unless_false x y r) st = run table own r (state_after st (added_by table own (unless_i x y)))
run table own (make_cont n x r) st = run table own r (state_after st (added_by table own (cont_i n x)))

-- ---- what is answered, without the code
-- a list of which what is known up to here is st
unfoldable pub listed_from : List ℕ → ℕ → State → Got Code → Result (BitPlace × Facts) (Refusal BitPlace)
listed_from table own st (got c q) = Ok (record { 0 = q }, finish (run table own c st))
listed_from table own st (refused n p) = Err (refusal n (record { 0 = p }))

unfoldable pub itemed : List ℕ → ℕ → Head → Result Item (Refusal BitPlace)
itemed table own (stop q) = Ok (End (record { 0 = q }))
itemed table own (item i q) = Ok (More (record { 0 = q }) (added_by table own i))
itemed table own (bad n p) = Err (refusal n (record { 0 = p }))

-- An instruction whose code ends at q, by its shape: without lists (1 to 3), its code being v; with lists (4 and 5), with so many levels
-- left below them. Nothing else matters of where it stands.
abbrev pub simple_at : List ℕ → ℕ → ℕ → ℕ → Head
simple_at s v q k = shaped s bottom 0 v q k

abbrev pub deep_at : List ℕ → ℕ → ℕ → ℕ → Head
deep_at s levels q k = shaped s (below (list_at s levels)) 0 0 q k

-- ---- a run of neutral instructions without lists that name no template
-- k is 0, or the shape of such a code v
unfoldable pub run_shape : ℕ → ℕ → Type 0
run_shape v k = 1 ≤ k → (shape_of v ≡ k) × (k ≤ 3) × (6 ≤ v) × (v ≡ 7 → ⊥)

-- what such an instruction adds
unfoldable pub Plain : Added → Type 0
Plain o = (o.kind ≡ Neutral) × (o.fits ≡ true) × (o.closes ≡ 0) × (1 ≤ o.size)

-- from p up to q there are only such instructions; they have n flat bytes, and their indices suit them if b
pub data Neutrals (table : List ℕ) (own : ℕ) (s : List ℕ) (p : ℕ) : ℕ → ℕ → Bool → Type 0 where
  none : Neutrals table own s p p 0 true
  more : (q n : ℕ) (b : Bool) → Neutrals table own s p q n b → (v k : ℕ) → 1 ≤ k → k ≤ 3
      → ((l : ℕ) → head_at s (deep_of s l) q ≡ simple_at s v (q + 5) k) → (u : BitPlace) (o : Added)
      → Ok (More u o) ≡ itemed table own (simple_at s v (q + 5) k)
      → Plain o → (q' n' : ℕ) (b' : Bool) → q' ≡ u.0 → n' ≡ n + o.size → b' ≡ (b && o.named) → Neutrals table own s p q' n' b'

-- what is known of a list after such a run
unfoldable pub run_after : State → ℕ → Bool → State
run_after st n b =
    record {
      classes = record { empty = cond (eqb n 0) st.classes.empty st.classes.opened; opened = st.classes.opened; closed = st.classes.closed };
      size = st.size + n;
      seen = st.seen;
      tail = cond st.seen (st.tail + n) st.tail;
      named = st.named && b;
      fits = st.fits;
      closes = st.closes;
    }

-- n operands from p on
unfoldable pub operands_at : List ℕ → ℕ → ℕ → List ℕ
operands_at s p zero = []
operands_at s p (suc n) = field_at s p 8 ∷ operands_at s (p + 8) n
