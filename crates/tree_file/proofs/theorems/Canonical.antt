-- A tree file that is read is the tree file of its templates: reading loses nothing. Assumes nothing.
use Rattle.std.specs.Prelude.{ℕ, ◌+◌, ◌*◌, ◌/◌, ◌≤◌, ◌<◌, ◌≡◌, ◌&&◌, List, ◌++◌, length, get_or, leb}
use Rattle.std.proofs.Common.{zero-add, arith, sym, ap, ◌∙◌, length-append}
use Rattle.std.proofs.Math.Seq.{take-length}
use Rattle.fields.specs.Field.{bit_at}
use Rattle.files.specs.Reading.{got}
use Rattle.files.specs.Entries.{field}
use Rattle.files.specs.laws.EntriesLaws.{bytes_length}
use Rattle.files.specs.laws.AllGot.{Each, then_led, field_got_lem}
use Rattle.files.specs.Linear.{bits_of, bytes_of}
use Rattle.files.specs.Tree.{Template, templates_at, tree_read}
use Rattle.readback.specs.Bits.{Stands}
use Rattle.readback.specs.laws.Bits.{length_bits}
use Rattle.readback.specs.laws.Led.{cond_led, valid_led, padded_led}
use Rattle.readback.specs.laws.Lists.{padded, bytes_slice}
use Rattle.readback.specs.laws.Standing.{field_then}
use Rattle.tree_file.specs.File.{templates_bits, file_bits, tree_file, placed, levels}
use Rattle.tree_file.proofs.theorems.Standing.{templates_stand}

-- what is known of a file that is read as templates
pub record TreeKnown (s : List ℕ) (ts : List Template) : Type 0 where
  pub here : Stands s 0 (file_bits ts)
  pub whole : (length (file_bits ts) + 7) / 8 ≡ length s
  pub rest : (i : ℕ) → length (file_bits ts) ≤ i → i < 8 * length s → bit_at s i ≡ 0
  -- each start is the first bit of its list
  pub starts : placed 8 ts ≡ ts
  pub deep : Each (λ n t. levels t.code < 16) 0 ts

pub tree_known : (s : List ℕ) (ts : List Template) (q : ℕ) → tree_read s ≡ got ts q → TreeKnown s ts
unfolding tree_read file_bits
tree_known s ts q e =
    let c = cond_led (leb (length s) 65536) _ 1 0 e in
    then_led (field s 0 8) _ c.1
    (λ T p first on.
    let f = field_got_lem s 0 8 first in
    then_led (templates_at s T 0 T p) _ (valid_led 0 (leb 1 T && leb T 64) _ on).1
    (λ us r read padded.
    let z = padded_led s us r padded in
    let m = templates_stand s T 0 T p f.2 read in
    let g : p ≡ 8 = f.1 in
    let l : length (bits_of 8 (length us) ++ templates_bits us) ≡ r =
    length-append (bits_of 8 (length us)) (templates_bits us) ∙ rw (length_bits 8 (length us)) (omega (arith, m.past)) in
    rw (← z.same)
    (record {
      here = field_then s 0 8 (length us) (templates_bits us) (m.count ∙ f.0) (rw g at m.here);
      whole = rw l z.whole;
      rest = λ i k. z.zero_at i (omega arith);
      starts = rw g at m.starts;
      deep = m.deep;
    })))

-- THE LAW: bytes that are read as templates are the file of these templates
pub tree_canonical : (s : List ℕ) (ts : List Template) (q : ℕ) → ((i : ℕ) → get_or s i 0 < 256) → tree_read s ≡ got ts q → tree_file ts ≡ s
unfolding tree_file bytes_of
tree_canonical s ts q bytes e =
    let k = tree_known s ts q e in
    let b = file_bits ts in
    let l : length (bytes_of b) ≡ length s = bytes_length b ∙ k.whole in
    rw k.whole
    (bytes_slice s bytes (length s) 0 b (omega arith)
    (λ i lt. padded b (8 * length s) k.here (λ j m n. ap (bit_at s) (zero-add j) ∙ k.rest j m n) i lt) ∙ take-length s)

-- two files that are read as the same templates are the same
pub tree_read_once : (s s' : List ℕ) (ts : List Template) (q q' : ℕ) → ((i : ℕ) → get_or s i 0 < 256) → ((i : ℕ) → get_or s' i 0 < 256)
    → tree_read s ≡ got ts q → tree_read s' ≡ got ts q' → s ≡ s'
tree_read_once s s' ts q q' b b' e e' = sym (tree_canonical s ts q b e) ∙ tree_canonical s' ts q' b' e'
