-- Two accepted tree files that flatten to the same bytes have the same entries and the same lists, and so they are the same bytes
-- (request 13). Assumes nothing.
use Rattle.std.specs.Prelude.{ℕ, ◌+◌, ◌<◌, ◌≡◌, refl, true, List, [], ◌∷◌, length}
use Rattle.std.proofs.Common.{arith, sym, ap, ◌∙◌}
use Rattle.std.proofs.Math.Option.{none}
use Rattle.files.specs.Reading.{got}
use Rattle.files.specs.Tree.{Template, tree_read}
use Rattle.files.specs.Grammar.{lowest, closed_template, indexed_template}
use Rattle.files.specs.Flat.{flat, offset_template}
use Rattle.files.specs.Linear.{Linear, template_bytes, linear_file, linear_read}
use Rattle.files.specs.Valid.{Bytes}
use Rattle.files.specs.laws.AllGot.{got_value, Each}
use Rattle.files.specs.Accepted.{flat_checked}
use Rattle.files.specs.laws.BytesLaws.{bytes_at}
use Rattle.files.specs.laws.AcceptedLaws.{lowest_none}
use Rattle.readback.specs.laws.Templates.{linear, linears}
use Rattle.readback.specs.laws.TreeFacts.{TemplateFacts, tree_facts}
use Rattle.files.specs.laws.AcceptedLaws.{checked, checked_read, flat_checked_lem, flat_offsets}
use Rattle.readback.specs.laws.ReadBack.{flattened_reads}
use Rattle.tree_file.specs.File.{levels, template_bits, placed}
use Rattle.tree_file.proofs.theorems.Canonical.{tree_known, tree_read_once}
use Rattle.back.proofs.theorems.Inverse.{one_list}
use Rattle.back.proofs.theorems.Lists.{is_of, fit_good, Accepted}

-- ---- every template
abbrev Deep : ℕ → Template → Type 0
Deep n t = levels t.code < 16

abbrev pub AcceptedTemplate : ℕ → Template → Type 0
AcceptedTemplate n t = Accepted t.entries t.code

accepted_from : (T n m : ℕ) (ts : List Template) → Each (TemplateFacts T) n ts → Each Deep n ts → lowest closed_template m ts ≡ none
    → lowest indexed_template m ts ≡ none
    → lowest offset_template m ts ≡ none → Each AcceptedTemplate n ts
unfolding is_of
accepted_from T n m [] f d a b c = tt
accepted_from T n m (t ∷ ts) f d a b c =
    let a' = lowest_none closed_template m t ts a in
    let b' = lowest_none indexed_template m t ts b in
    let c' = lowest_none offset_template m t ts c in (
      record { fit = record { category = a'.0; valid = f.0.valid_code; deep = omega (arith, d.0); offsets = c'.0 }; indices = b'.0 },
      accepted_from T (n + 1) (m + 1) ts f.1 d.1 a'.1 b'.1 c'.1,
    )

-- every template of a file that the flattener accepts has an accepted list
pub accepted_templates : (s : List ℕ) (ts : List Template) (q : ℕ) → flat_checked s ≡ got ts q → Each AcceptedTemplate 0 ts
accepted_templates s ts q e =
    let c = checked s ts q (flat_checked_lem s ts q e) in
    accepted_from (length ts) 0 0 ts (tree_facts s ts q c.read).each (tree_known s ts q c.read).deep c.closed c.indexed (flat_offsets s ts q e)

-- ---- two files
-- the same entries and the same lists; where the lists begin is not compared
pub data Alike : List Template → List Template → Type 0 where
  no_more : Alike [] []
  one_more : {t u : Template} {ts us : List Template} → t.entries ≡ u.entries → t.code ≡ u.code → Alike ts us → Alike (t ∷ ts) (u ∷ us)

alike_from : (n j k : ℕ) (ts us : List Template) → Each AcceptedTemplate n ts → Each AcceptedTemplate n us → linears j ts ≡ linears k us → Alike ts us
unfolding linears
alike_from n j k [] [] a b e = no_more
alike_from n j k [] (u ∷ us) a b e = let z : ◌≡◌ {A = ℕ} 0 1 = cc in absurd (omega arith)
alike_from n j k (t ∷ ts) [] a b e = let z : ◌≡◌ {A = ℕ} 0 1 = cc in absurd (omega arith)
alike_from n j k (t ∷ ts) (u ∷ us) a b e =
    let first : linear j t ≡ linear k u = cc in
    let rest : linears (j + length (template_bytes t)) ts ≡ linears (k + length (template_bytes u)) us = cc in
    let code : flat t.code ≡ flat u.code = ap (λ (x : Linear). x.code) first in
    one_more (ap (λ (x : Linear). x.entries) first)
    (one_list (fit_good 15 true t.code a.0.fit) (fit_good 15 true u.code b.0.fit) code)
    (alike_from (n + 1) (j + length (template_bytes t)) (k + length (template_bytes u)) ts us a.1 b.1 rest)

pub alike : (s z : List ℕ) (ts us : List Template) (p q : ℕ) → flat_checked s ≡ got ts p → flat_checked z ≡ got us q → linear_file ts ≡ linear_file us → Alike ts us
alike s z ts us p q a b e =
    let f = flattened_reads s ts p a in
    let g = flattened_reads z us q b in
    let h : linears 1 ts ≡ linears 1 us = (got_value (sym f ∙ (ap linear_read e ∙ g))).0 in
    alike_from 0 1 1 ts us (accepted_templates s ts p a) (accepted_templates z us q b) h

-- a tree file is fixed by the entries and lists that are read from it, since these fix where each list begins
alike_placed : (p : ℕ) {ts us : List Template} → Alike ts us → placed p ts ≡ placed p us
unfolding placed template_bits
alike_placed p no_more = refl
alike_placed p (one_more {t = t} {u = u} e f a) = rw (e, f, alike_placed (p + length (template_bits u)) a) refl

one_tree : (s z : List ℕ) (ts us : List Template) (p q : ℕ) → Bytes s → Bytes z → tree_read s ≡ got ts p → tree_read z ≡ got us q → Alike ts us → s ≡ z
one_tree s z ts us p q b c e f a =
    let same : ts ≡ us = sym (tree_known s ts p e).starts ∙ alike_placed 8 a ∙ (tree_known z us q f).starts in
    tree_read_once s z us p q (bytes_at s b) (bytes_at z c) (rw same at e) f

-- THE LAW (request 13): two accepted tree files, files of bytes, that flatten alike are one
pub one_file : (s z : List ℕ) (ts us : List Template) (p q : ℕ) → Bytes s → Bytes z → flat_checked s ≡ got ts p → flat_checked z ≡ got us q
    → linear_file ts ≡ linear_file us → s ≡ z
one_file s z ts us p q c d a b e =
    one_tree s z ts us p q c d (checked_read s ts p (flat_checked_lem s ts p a)) (checked_read z us q (flat_checked_lem z us q b)) (alike s z ts us p q a b e)
