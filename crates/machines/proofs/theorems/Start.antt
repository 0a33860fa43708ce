-- What is refused before a run looks at its file, and what is known where nothing is. Assumes nothing.
use Rattle.std.specs.Prelude.{ℕ, ◌≡◌, refl, Bool, true, false, cond, ◌&&◌, leb, eqb, length, Result, Ok, Err}
use Rattle.std.specs.Result.{result_and}
use Rattle.std.proofs.Common.{sym, ◌∙◌, leb-true, eqb-true}
use Rattle.std.proofs.Math.Option.{Option, none, some}
use Rattle.std.proofs.lemmas.List.{length-replicate}
use Rattle.owners.specs.Owners.{is_owner, owner_of}
use Rattle.owners.specs.declared.Owner.{Owner}
use Rattle.machines.specs.Runs.{Memory, Ran, ran, refused_run, right_lengths, lowest_unfit, fit_globals, by_owner, started}
use Rattle.machines.specs.declared.Run.{Run}
use Rattle.machines.specs.Start.{zeros, refusal, globals_refusal, start_refusal, MayStart}
use Rattle.files.specs.declared.Refusal.{Refusal}
use Rattle.files.specs.Refusal.{refusal as why}

pub zeros_length : (n : ℕ) → length (zeros n) ≡ n
unfolding zeros
zeros_length n = length-replicate n 0

-- how a run ends that x was said of at its start; on, by its owner, where nothing is refused
unfoldable pub started_as : Result Owner (Refusal ℕ) → Memory → (Owner → Ran) → Ran
started_as (Ok w) m on = on w
started_as (Err e) m on = refused_run e.0 e.1 m

globals_as : (o : Option ℕ) (m : Memory) (w : Owner) (on : Owner → Ran)
    → fit_globals o m (on w) ≡ started_as (result_and (globals_refusal o) (Ok w)) m on
unfolding fit_globals started_as globals_refusal
globals_as none m w on = refl
globals_as (some g) m w on = refl

pub started_as_lem : (most b o : ℕ) (m : Memory) (on : Owner → Ran)
    → started most b o m (on (owner_of o)) ≡ started_as (start_refusal most b o m) m on
unfolding started started_as start_refusal by_owner
started_as_lem most b o m on = by (right_lengths m) (leb b most) (is_owner o)
  where
    unfit : Option ℕ
    unfit = lowest_unfit 0 m.globals

    by : (x y z : Bool)
        → cond x (cond y (cond z (fit_globals unfit m (on (owner_of o))) (refused_run 31 0 m)) (refused_run 21 0 m)) (refused_run 20 0 m)
        ≡ started_as
        (cond x (cond y (cond z (result_and (globals_refusal unfit) (Ok (owner_of o))) (Err (why 31 0))) (Err (why 21 0))) (Err (why 20 0))) m on
    by true true true = globals_as unfit m (owner_of o) on
    by true true false = refl
    by true false z = refl
    by false y z = refl

module _ (most b o : ℕ) (m : Memory) where
  pub started_go : (on : Owner → Ran) (w : Owner) → start_refusal most b o m ≡ Ok w → started most b o m (on (owner_of o)) ≡ on w
  unfolding started_as
  started_go on w e = rw (started_as_lem most b o m on, e)

  pub started_refused : (r : Ran) (n p : ℕ) → start_refusal most b o m ≡ Err (why n p) → started most b o m r ≡ ran (refusal n p) m
  unfolding started_as refused_run
  started_refused r n p e = rw (started_as_lem most b o m (λ w. r), e)

-- nothing is known of a refusal
abbrev WhereGo : Type 0 → Result Owner (Refusal ℕ) → Type 0
WhereGo P (Ok w) = P
WhereGo P (Err e) = Unit

pub startable : (most b o : ℕ) (m : Memory) (w : Owner) → start_refusal most b o m ≡ Ok w → MayStart most b m
unfolding start_refusal right_lengths
startable most b o m w e =
    rw e at
    (by (eqb (length m.globals) 256) (eqb (length m.stack) 256) (eqb (length m.store) 2048) (eqb (length m.frames) 2048) (leb b most) (is_owner o)
    refl refl refl refl refl)
  where
    known : (x : Result Owner (Refusal ℕ)) → MayStart most b m → WhereGo (MayStart most b m) x
    known (Ok w) h = h
    known (Err e) h = tt

    by : (g s t f l w : Bool) → eqb (length m.globals) 256 ≡ g → eqb (length m.stack) 256 ≡ s → eqb (length m.store) 2048 ≡ t
        → eqb (length m.frames) 2048 ≡ f → leb b most ≡ l
        → WhereGo (MayStart most b m)
        (cond (g && (s && (t && f)))
        (cond l (cond w (result_and (globals_refusal (lowest_unfit 0 m.globals)) (Ok (owner_of o))) (Err (why 31 0))) (Err (why 21 0)))
        (Err (why 20 0)))
    by false s t f l w h i j k u = tt
    by true false t f l w h i j k u = tt
    by true true false f l w h i j k u = tt
    by true true true false l w h i j k u = tt
    by true true true true false w h i j k u = tt
    by true true true true true false h i j k u = tt
    by true true true true true true h i j k u =
        known (result_and (globals_refusal (lowest_unfit 0 m.globals)) (Ok (owner_of o)))
        (record {
          globals_long = eqb-true (length m.globals) 256 h;
          stack_long = eqb-true (length m.stack) 256 i;
          store_long = eqb-true (length m.store) 2048 j;
          frames_long = eqb-true (length m.frames) 2048 k;
          budget_fits = leb-true b most u;
        })

-- ---- a run that x was answered of at its start
module _ (most b o : ℕ) (m : Memory) (x : Result Owner (Refusal ℕ)) (asked : x ≡ start_refusal most b o m) where
  pub may_start : (w : Owner) → x ≡ Ok w → MayStart most b m
  may_start w h = startable most b o m w (sym asked ∙ h)

  -- on, a machine's run by its owner, of what reading the file answered
  pub start_goes : {F : Type 0} (on : Owner → ℕ → Memory → F → Ran) (f : F) (r : Ran) (w : Owner) → x ≡ Ok w → r ≡ on w b m f
      → r ≡ started most b o m (on (owner_of o) b m f)
  start_goes on f r w h e = e ∙ sym (started_go most b o m (λ v. on v b m f) w (sym asked ∙ h))

  pub start_refused : (r : Ran) (n p : ℕ) (y : Run) → x ≡ Err (why n p) → y ≡ refusal n p → ran y m ≡ started most b o m r
  start_refused r n p y h e = rw e (sym (started_refused most b o m r n p (sym asked ∙ h)))
