-- What is fetched in an accepted tree file, by its links and its table, is what stands there. Assumes nothing.
use Rattle.std.specs.Prelude.{ℕ, ◌*◌, ◌≤◌, ◌<◌, ◌≡◌, refl, true, List, length}
use Rattle.std.proofs.Common.{arith, ◌∙◌, ne_eqb}
use Rattle.std.proofs.Math.Bool.{false}
use Rattle.std.proofs.Math.ListN.{get_or, get_or-eq_default}
use Rattle.files.specs.Grammar.{is_closed, closed_template}
use Rattle.files.specs.Reading.{got}
use Rattle.files.specs.Table.{tree_table}
use Rattle.files.specs.laws.AllGot.{tree_read_lem}
use Rattle.files.specs.laws.TableLaws.{Few, tree_entries, row_start, tree_slot, tree_beyond}
use Rattle.files.specs.Tree.{Template}
use Rattle.files.specs.Accepted.{tree_checked}
use Rattle.files.specs.laws.AcceptedLaws.{none_refused}
use Rattle.files.specs.laws.AcceptedLaws.{Checked, checked}
use Rattle.links.specs.Links.{linked_all}
use Rattle.tree.specs.laws.Laid.{TemplateLaid, short, template_there}
use Rattle.links.specs.laws.Templates.{template_stands, template_links}
use Rattle.machines.specs.Fetched.{Fetched, bad, first, look, tree_at, no_template}
use Rattle.machines.specs.Slots.{slot_at}
use Rattle.machines.specs.laws.Slots.{RowStands, row_stands, slot_resolve_lem}
use Rattle.rules.specs.laws.Lists.{by_lt}
use Rattle.tree_code.specs.Fetch.{fetched_at}
use Rattle.tree_machine.specs.laws.Real.{fits, false_true, Real, first_real, real_within}
use Rattle.tree_machine.specs.laws.Look.{seen, Leads, Found, look_found}

-- ---- the places at which execution can be in template t of ts; a template that is not there has place 0
pub data Standing (ts : List Template) (t p : ℕ) : Type 0 where
  inside : t < length ts → Real false (get_or ts t no_template).start (get_or ts t no_template).code p → Standing ts t p
  nowhere : length ts ≤ t → p ≡ 0 → Standing ts t p

-- what is fetched from p is F, and leads to places at which execution can be
pub record Fetches (s L table : List ℕ) (ts : List Template) (t p : ℕ) (F : Fetched) : Type 0 where
  pub fetched : fetched_at s L table t p ≡ seen F
  pub leads : Leads (Standing ts t) F

module _ (s : List ℕ) (size : ℕ) (ts : List Template) (q : ℕ) (accepted : tree_checked s ≡ got ts q) where
  known : Checked s ts q
  known = checked s ts q accepted

  few : Few tree_entries ts
  few = (tree_read_lem s known.read).1.1

  there : (t : ℕ) → t < length ts → (p : ℕ) × (8 ≤ p) × TemplateLaid s (length ts) t p (get_or ts t no_template)
  there t h = template_there s known.read t no_template h

  closed_at : (t : ℕ) → t < length ts → is_closed (get_or ts t no_template).code ≡ true
  closed_at t h = none_refused closed_template 0 ts t no_template known.closed h

  no_template_lem : (t : ℕ) → length ts ≤ t → get_or ts t no_template ≡ no_template
  no_template_lem t h = get_or-eq_default ts no_template h

  -- where a template's code begins
  pub starts_agree : (t : ℕ) → slot_at (tree_table size ts) t 0 ≡ (get_or ts t no_template).start
  unfolding slot_at
  starts_agree t =
      by_lt t (length ts)
      (λ h. tree_slot size ts few t 0 no_template h (omega arith) ∙ row_start _ _)
      (λ h. tree_beyond size ts few t 0 h ∙ rw (no_template_lem t h))

  pub start_stands : (t : ℕ) → Standing ts t (get_or ts t no_template).start
  unfolding fits
  start_stands t = by_lt t (length ts) (λ h. inside h (first_real false _ _ (closed_at t h))) (λ h. nowhere h (rw (no_template_lem t h)))

  -- the slots of a template's row stand for its entries
  slots : (t : ℕ) → t < length ts → RowStands (slot_at (tree_table size ts) t) (get_or ts t no_template).entries
  unfolding slot_at
  slots t h =
      let f = (there t h).2 in
      row_stands t (length ts) (get_or ts t no_template).start (get_or ts t no_template).entries (slot_at (tree_table size ts) t) f.entries_ok
      (omega (arith, f.within, short s known.read))
      (λ n l. tree_slot size ts few t n no_template h l)

  module _ (L₀ : List ℕ) (long : 8 * length s ≤ 5 * length L₀) where
    real_fetches : (t p : ℕ) → t < length ts → Real false (get_or ts t no_template).start (get_or ts t no_template).code p
        → Fetches s (linked_all L₀ ts) (tree_table size ts) ts t p (tree_at ts t p)
    unfolding tree_at fetched_at fits
    real_fetches t p h r =
        let x = get_or ts t no_template in
        let l = there t h in
        let found : Found s (linked_all L₀ ts) (tree_table size ts) t x.entries (Standing ts t) 16 p (look x.entries x.start x.code bad p) =
        look_found s (linked_all L₀ ts) (tree_table size ts) t x.entries (Standing ts t)
        (λ op ns k. slot_resolve_lem (slot_at (tree_table size ts) t) x.entries op ns (slots t h) k)
        x.code false 15 x.start 0 0 0 bad
        (record {
          there = template_stands s known.read t no_template h;
          links = template_links s known.read t no_template h L₀ long;
          fit = closed_at t h;
          ends = λ e. false_true e;
          levels = omega arith;
          follows = λ e. false_true e;
          inside = λ p r. inside h r;
        })
        p r
        in
        let w = real_within false x.start x.code p r in
        record { fetched = rw (ne_eqb p 0 (λ e. omega (arith, l.1, l.2.begins)), found.reached 17 (omega arith)) found.stands; leads = found.leads }

    -- THE LAW
    pub fetches : (t p : ℕ) → Standing ts t p → Fetches s (linked_all L₀ ts) (tree_table size ts) ts t p (tree_at ts t p)
    unfolding tree_at first look fetched_at seen Leads
    fetches t p (inside h r) = real_fetches t p h r
    fetches t p (nowhere h e) = rw (e, no_template_lem t h) (record { fetched = refl; leads = tt })

  -- such a place fits into a frame's cell
  pub standing_fits : (t p : ℕ) → Standing ts t p → p < 8 * 65536
  standing_fits t p (inside h r) = omega (arith, (there t h).2.within, short s known.read, real_within false _ _ p r)
  standing_fits t p (nowhere h e) = omega arith
