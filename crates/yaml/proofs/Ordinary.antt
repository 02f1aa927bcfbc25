-- Kept's conditions on the rows of block nodes hold of ordinary rows: `k: v`, `k:`, `k: |` and `- v`, with a comment or without. Assumes nothing.
use Rattle.std.proofs.Common.{◌≡◌, refl, ℕ, arith, List, [], ◌∷◌, ◌++◌, append_assoc, Bool, true, false, ◌||◌, not, T, eqb, ltb, ltb→lt}
use Rattle.std.proofs.Math.Facts.{and_yes, yes_and}
use Rattle.refusal.specs.Base.{ch, bytes, empty}
use Rattle.refusal.proofs.Open.{Base-open}
use Rattle.utf8.proofs.TrimLaws.{end-behind}
use Rattle.utf8.proofs.Open.{Utf8-open, White-open}
use Rattle.utf8.specs.White.{trim_end}
use Rattle.yaml.specs.Characters.{among, whites}
use Rattle.yaml.specs.Scalars.{flow_out, d_end, d_char}
use Rattle.yaml.specs.Core.{to_str}
use Rattle.yaml.specs.Represent.{Rep}
use Rattle.yaml.specs.Flow.{Flow, f_plain, q_double}
use Rattle.yaml.specs.Rows.{tail}
use Rattle.yaml.specs.Block.{Chomp, strip, clip, mark}
use Rattle.yaml.specs.Kept.{starts, KeptFlow, KeyFound, NoKey, Cut}
use Rattle.yaml.specs.Ordinary.{without, flow_without, no_quotes, no_inner_quotes, last, space, KeyText, k_plain, k_quoted, hash_behind_space, Quiet, q_plain, q_quoted, q_white, q_mark, q_join, RowText, r_flow, r_entry, r_key, r_literal, r_dash, r_item}
use Rattle.yaml.proofs.Open.{Ordinary-open}
use Rattle.yaml.proofs.Plains.{is_plain_lem, All-open}
use Rattle.yaml.proofs.NodeTexts.{node-trim, front_of}
use Rattle.yaml.proofs.OrdinaryTrims.{end-front, trim_end_lem}
use Rattle.yaml.proofs.OrdinaryKeys.{key-found, key-starts}
use Rattle.yaml.proofs.OrdinaryComments.{quiet-Cut}
use Rattle.yaml.proofs.OrdinaryFlow.{flow-no-key, flow-quiet}

-- ---- texts of rows

record Whole (t : List ℕ) : Type 0 where
  quiet : Quiet t
  some : T (not (empty t))
  trimmed : trim_end t ≡ t

whole-Cut : {t : List ℕ} (w : List ℕ) → Whole t → T (tail w) → T (hash_behind_space w) → Cut t w
whole-Cut w t h n = quiet-Cut w t.quiet t.trimmed h n

not-empty : (s : List ℕ) (c : ℕ) (v : List ℕ) → T (not (empty (s ++ (c ∷ v))))
unfolding empty
not-empty [] c v = tt
not-empty (b ∷ s) c v = tt

-- by its last bytes
whole-end : (s : List ℕ) (c : ℕ) (v : List ℕ) → Quiet s → Whole (c ∷ v) → T (ltb c 0x80) → Whole (s ++ (c ∷ v))
whole-end s c v q t h = record {
  quiet = q_join q t.quiet refl;
  some = not-empty s c v;
  trimmed = end-behind c (λ l _. omega (arith, ltb→lt c 0x80 h)) v t.trimmed s;
}

whole-space : (x t : List ℕ) → T (whites x) → Whole t → Whole (ch " " ∷ x ++ t)
whole-space x t h w = record {
  quiet = q_join (q_white {x = 32 ∷ x} (unfold whites in h)) w.quiet refl;
  some = unfold empty in tt;
  trimmed = (end-front (32 ∷ x) t (unfold whites in h) w.some w.trimmed).0;
}

whole-flow : (l : List ℕ) {t : List ℕ} {r : Rep} (d : Flow flow_out t r) → KeptFlow d → T (flow_without (bytes "'\"") l d) → Whole t
whole-flow l {t} d k h = record {
  quiet = flow-quiet l d h;
  some = unfold empty in rw (front_of d).is tt;
  trimmed = trim_end_lem t (node-trim d k);
}

whole-colon : Whole (ch ":" ∷ [])
unfolding Base-open Utf8-open White-open among
whole-colon = record { quiet = q_mark tt; some = tt; trimmed = refl }

whole-dash : Whole (ch "-" ∷ [])
unfolding Base-open Utf8-open White-open among
whole-dash = record { quiet = q_mark tt; some = tt; trimmed = refl }

whole-bar : (c : Chomp) → Whole (ch "|" ∷ mark c)
unfolding Base-open Utf8-open White-open among mark
whole-bar strip = record { quiet = q_join (q_mark {b = 124} tt) (q_mark {b = 45} tt) refl; some = tt; trimmed = refl }
whole-bar clip = record { quiet = q_mark tt; some = tt; trimmed = refl }

-- ---- keys

fewer : (b : ℕ) → T (not (among b (bytes "'\"[{"))) → T (not (among b (bytes "'\"")))
unfolding among bytes
fewer b h = go (eqb b 39) (eqb b 34) (eqb b 91 || (eqb b 123 || false)) h
  where
    go : (x y z : Bool) → T (not (x || (y || z))) → T (not (x || (y || false)))
    go false false z h = tt
    go false true z h = absurd h
    go true y z h = absurd h

without_fewer : (t : List ℕ) → T (without (bytes "'\"[{") t) → T (without (bytes "'\"") t)
unfolding without
without_fewer [] h = tt
without_fewer (b ∷ t) h =
    let k = and_yes (not (among b (bytes "'\"[{"))) (without (bytes "'\"[{") t) h in
    yes_and (not (among b (bytes "'\""))) (without (bytes "'\"") t) (fewer b k.0) (without_fewer t k.1)

key-quiet : {k : List ℕ} → KeyText k → Quiet k
key-quiet (k_plain {t = t} p h e) = q_plain p (without_fewer t h)
key-quiet (k_quoted q h) = q_quoted q

-- with white space, a colon and what follows it
whole-key : {k : List ℕ} (y : List ℕ) (c : ℕ) (v : List ℕ) → KeyText k → T (whites y) → Whole (c ∷ v) → T (ltb c 0x80) → Whole ((k ++ y) ++ (ch ":" ∷ c ∷ v))
unfolding among bytes
whole-key {k} y c v q h t l =
    let z : Quiet (k ++ y) = q_join (key-quiet q) (q_white h) refl in
    rw (append_assoc (k ++ y) (58 ∷ []) (c ∷ v)) at (whole-end ((k ++ y) ++ (58 ∷ [])) c v (q_join z (q_mark {b = 58} tt) refl) t l)

whole_row : {s : List ℕ} → RowText s → Whole s
whole_row (r_flow d k h) = whole-flow [] d k h
whole_row (r_entry {k = k} {t = t} y x q wy wx d g h e) = rw e (whole-key y 32 (x ++ t) q wy (whole-space x t wx (whole-flow [] d g h)) tt)
whole_row (r_key {k = k} y q wy e) = rw e (whole-end (k ++ y) 58 [] (q_join (key-quiet q) (q_white wy) refl) whole-colon tt)
whole_row (r_literal {k = k} y x c q wy wx e) = rw e (whole-key y 32 (x ++ (124 ∷ mark c)) q wy (whole-space x (124 ∷ mark c) wx (whole-bar c)) tt)
whole_row r_dash = whole-dash
whole_row (r_item {t = t} x wx r e) = rw e (whole-end (45 ∷ []) 32 (x ++ t) whole-dash.quiet (whole-space x t wx (whole_row r)) tt)

-- the comment of an ordinary row, and no more, is cut
pub row-Cut : {t : List ℕ} (w : List ℕ) → RowText t → T (tail w) → T (hash_behind_space w) → Cut t w
row-Cut w t h n = let k = whole_row t in quiet-Cut w k.quiet k.trimmed h n

-- ---- what Kept asks of an entry and of an item beside their nodes

-- a key s with its white space, u behind its colon, and the tail w
pub record EntryKept (s u w : List ℕ) : Type 0 where
  pub first : starts (ch "?") s ≡ false
  pub found : KeyFound s u
  pub comment : Cut (s ++ (ch ":" ∷ u)) w

module _ {k w : List ℕ} (y : List ℕ) (q : KeyText k) (h : T (whites y)) (t : T (tail w)) (n : T (hash_behind_space w)) where
  -- `k: v`
  pub entry-flow : {v : List ℕ} {r : Rep} (x : List ℕ) → T (whites x) → (d : Flow flow_out v r) → KeptFlow d → T (no_quotes d) → EntryKept (k ++ y) (ch " " ∷ x ++ v) w
  entry-flow x g d e m = record { first = key-starts y q; found = key-found y q h space; comment = row-Cut w (r_entry y x q h g d e m refl) t n }

  -- `k:`
  pub entry-alone : EntryKept (k ++ y) [] w
  entry-alone = record { first = key-starts y q; found = key-found y q h last; comment = row-Cut w (r_key y q h refl) t n }

  -- `k: |`, `k: |-`
  pub entry-literal : (x : List ℕ) (c : Chomp) → T (whites x) → EntryKept (k ++ y) (ch " " ∷ x ++ (ch "|" ∷ mark c)) w
  entry-literal x c g = record { first = key-starts y q; found = key-found y q h space; comment = row-Cut w (r_literal y x c q h g refl) t n }

-- a node v behind a dash and the white space x, and the tail w
pub record ItemKept (x v w : List ℕ) : Type 0 where
  pub no_key : NoKey v
  pub comment : Cut (ch "-" ∷ ch " " ∷ x ++ v) w

-- `- v`
pub item-flow : {v w : List ℕ} {r : Rep} (x : List ℕ) → T (whites x) → (d : Flow flow_out v r) → KeptFlow d → T (no_inner_quotes d) → T (tail w) → T (hash_behind_space w) → ItemKept x v w
item-flow {v} {w} x g d e m t n = record { no_key = flow-no-key d m; comment = whole-Cut w (whole-end (45 ∷ []) 32 (x ++ v) whole-dash.quiet (whole-space x v g (whole-flow (bytes "\"") d e m)) tt) t n }

-- ---- an instance: `"a: b" : it is 5 # c`

sample : EntryKept (bytes "\"a: b\" ") (bytes " it is 5") (bytes " # c")
unfolding All-open Ordinary-open
sample =
    entry-flow (bytes " ") (k_quoted (q_double {t = bytes "a: b"} {v = bytes "a: b"} (d_char tt (d_char tt (d_char tt (d_char tt d_end)))) refl) tt) tt tt tt
    [] tt (f_plain (is_plain_lem flow_out (bytes "it is 5") tt) (to_str tt)) (refl, tt) tt
