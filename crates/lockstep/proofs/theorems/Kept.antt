-- The rules keep states alike (Lockstep's Kin): Frames.antt's Like, where the first state's environments are sound. Assumes nothing.
use Rattle.std.specs.Prelude.{◌≡◌, refl, ℕ, ◌+◌}
use Rattle.std.proofs.Common.{arith}
use Rattle.cells.specs.Cells.{tag_of}
use Rattle.owners.specs.declared.Owner.{Owner}
use Rattle.rules.specs.State.{Held, Res, ok}
use Rattle.rules.specs.Owned.{owned_rule, owned_ok}
use Rattle.rules.specs.Rules.{Data, applied, called, walk, call_rule, make_cont_rule, Back, back_to, return_rule, is_false}
use Rattle.rules.specs.laws.Related.{ResR, ok_r, wrong_r, BackR, none_b, some_b}
use Rattle.rules.specs.laws.Effects.{ConstantCell}
use Rattle.rules.specs.laws.Clean.{Sized, Bound, plain_sized, plain_bound, call_sized, call_bound, make_cont_sized, make_cont_bound, return_sized, return_bound}
use Rattle.rules.specs.laws.Sound.{Sound}
use Rattle.rules.specs.laws.SoundRules.{PlainOk, plain_sound, call_sound, make_cont_sound, return_sound}
use Rattle.rules.specs.declared.Regs.{Regs}
use Rattle.rules.specs.declared.Plain.{Plain}
use Rattle.rules.specs.declared.Plain.TheVariants.{Literal}
use Rattle.lockstep.specs.laws.Lockstep.{Kin}
use Rattle.lockstep.specs.laws.Likeness.{Likeness}
use Rattle.lockstep.specs.laws.Plain.{PlainLike, Allowed}
use Rattle.lockstep.proofs.theorems.PlainLaws.{walk_same, owned_alike, call_alike, false_alike}
use Rattle.lockstep.proofs.theorems.Frames.{Savable, Like, like_d, keep_like, back_like}

-- ---- what two rules end with, and that they end so
pub more : {A : Type 0} {Q Q' : A → A → Type 0} {x y : Res A} → ResR Q x y → ((a b : A) → x ≡ ok a → Q a b → Q' a b) → ResR Q' x y
more (ok_r {a = a} {b = b} q) f = ok_r (f a b refl q)
more wrong_r f = wrong_r

pub more_back : {R : ℕ → ℕ → ℕ → ℕ → ℕ → Type 0} {D D' : Data → Data → ℕ → Type 0} {x y : Back} {n : ℕ} → BackR R D x y n
    → ((t p : ℕ) (a b : Data) (J : ℕ) → x ≡ back_to t p a → D a b J → D' a b J) → BackR R D' x y n
more_back none_b f = none_b
more_back (some_b {t = t} {p = p} {J = J} {d = d} {d' = d'} r q e) f = some_b r (f t p d d' J refl q) e

-- what the rules keep of one state
pub record Safe (d : Data) : Type 0 where
  pub sized : Sized d
  pub bound : Bound d
  pub sound : Sound d

owned_safe : (o : Owner) (i : Plain) (d : Data) (h : Held) → PlainOk i → owned_rule o i d.mem d.regs ≡ ok h → Safe d → Safe (applied d h)
owned_safe o i d h p y k =
    let e = (owned_ok o i d.mem d.regs h y).1 in
    record {
      sized = plain_sized i d h e k.sized;
      bound = plain_bound i d h e k.bound;
      sound = plain_sound d k.sized k.bound k.sound i h p e;
    }

call_safe : (n : ℕ) (d : Data) (t : ℕ) (r : Regs) → call_rule n d.regs ≡ ok (t, r) → Safe d → Safe (called d r)
call_safe n d t r e k = record { sized = call_sized n d t r e k.sized; bound = call_bound n d t r e k.bound; sound = call_sound n d t r e k.sound }

module _ (L : Likeness) (R : ℕ → ℕ → ℕ → ℕ → ℕ → Type 0) where
  -- walks: what local and set-local! find is the same
  abbrev pub Walks : Data → Data → Type 0
  Walks d d' = (a b : ℕ) → walk d.mem.store d.regs.env a b ≡ walk d'.mem.store d.regs.env a b

  pub apply_like : {i i' : Plain} {d d' : Data} {J : ℕ} (o : Owner) → Allowed L o → Like L R d d' J → Walks d d' → ((c : ℕ) → i ≡ Literal c → L.CR c c)
      → PlainLike L i i'
      → ResR (λ h h'. Like L R (applied d h) (applied d' h') J) (owned_rule o i d.mem d.regs) (owned_rule o i' d'.mem d'.regs)
  apply_like o a (like_d r m f) w c y = more (owned_alike L o a m r w c y) (λ h h' e q. like_d q.regs_like q.mem_like f)

  pub call_like : (n : ℕ) {d d' : Data} {J : ℕ} → Like L R d d' J
      → ResR (λ r r'. L.TR r.0 r'.0 × Like L R (called d r.1) (called d' r'.1) J) (call_rule n d.regs) (call_rule n d'.regs)
  call_like n (like_d r m f) = more (call_alike L n r) (λ a b e q. (q.0, like_d q.1 m f))

  pub false_like : {d d' : Data} {J : ℕ} → Like L R d d' J → is_false d.regs ≡ is_false d'.regs
  false_like (like_d r m f) = false_alike L r

constant_like : (L : Likeness) (c : ℕ) → ConstantCell c → L.CR c c
constant_like L c k = L.same {c = c} (λ (e : tag_of c ≡ 7). omega arith)

module _ (L : Likeness) (R : ℕ → ℕ → ℕ → ℕ → ℕ → Type 0) where
  -- alike, and the first is safe
  pub record Kindred (d d' : Data) (J : ℕ) : Type 0 where
    pub like : Like L R d d' J
    pub safe : Safe d

  -- a layer's parent is read without a look at the tag, so that sound environments are what makes walks the same
  walks_kindred : {d d' : Data} {J : ℕ} → Safe d → Like L R d d' J → Walks L R d d'
  walks_kindred {d} s (like_d r m f) a b = walk_same L d.regs.st m.store_like s.sound.store_ok a b s.sound.env_ok

  pub apply_kindred : {i i' : Plain} {d d' : Data} {J : ℕ} (o : Owner) → Allowed L o → PlainOk i → PlainLike L i i' → Safe d → Like L R d d' J
      → ResR (λ h h'. Kindred (applied d h) (applied d' h') J) (owned_rule o i d.mem d.regs) (owned_rule o i' d'.mem d'.regs)
  apply_kindred {i} {d = d} o a p y s k =
      more (apply_like L R o a k (walks_kindred s k) (λ c e. constant_like L c (rw e at p)) y)
      (λ h h' e q. record { like = q; safe = owned_safe o i d h p e s })

  pub call_kindred : (n : ℕ) {d d' : Data} {J : ℕ} → Safe d → Like L R d d' J
      → ResR (λ r r'. L.TR r.0 r'.0 × Kindred (called d r.1) (called d' r'.1) J) (call_rule n d.regs) (call_rule n d'.regs)
  call_kindred n {d} s k = more (call_like L R n k) (λ a b e q. (q.0, record { like = q.1; safe = call_safe n d a.0 a.1 e s }))

  pub keep_kindred : {n t p t' q j J : ℕ} {d d' : Data} → Savable R n t p t' q j → Kindred d d' J
      → ResR (λ a b. Kindred a b (j + J)) (make_cont_rule n t p d) (make_cont_rule n t' q d')
  keep_kindred {n} {t} {p} {d = d} x k =
      let s = k.safe in
      more (keep_like L R x k.like) (λ a b e y. record {
        like = y;
        safe = record {
          sized = make_cont_sized n t p d a e s.sized;
          bound = make_cont_bound n t p d a e s.bound;
          sound = make_cont_sound n t p d x.n_fits x.t_fits x.p_fits s.sized s.bound s.sound a e;
        };
      })

  pub back_kindred : {d d' : Data} {J : ℕ} → Kindred d d' J → BackR R Kindred (return_rule d) (return_rule d') J
  back_kindred {d} k =
      let s = k.safe in
      more_back (back_like L R k.like) (λ t p a b J e y. record {
        like = y;
        safe = record {
          sized = return_sized d t p a e s.sized;
          bound = return_bound d t p a e s.bound;
          sound = return_sound d s.sized s.bound s.sound t p a e;
        };
      })

  unfoldable pub alike : (o : Owner) → Allowed L o → Kin R
  alike o a = record {
    owner = o;
    DR = Kindred;
    IR = λ i i'. PlainOk i × PlainLike L i i';
    TR = L.TR;
    SR = Savable R;
    Hole = Unit;
    apply_ok = λ y k. apply_kindred o a y.0 y.1 k.safe k.like;
    call_ok = λ n k. call_kindred n k.safe k.like;
    keep_ok = keep_kindred;
    back_ok = back_kindred;
    false_ok = λ k. false_like L R k.like;
  }
