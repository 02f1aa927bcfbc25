-- White space added to a text is trimmed again, and what is trimmed has no more to trim. Assumes nothing.
use Rattle.std.specs.Prelude.{if◌then◌else◌}
use Rattle.std.proofs.Common.{◌≡◌, refl, sym, ap, ◌∙◌, List, [], ◌∷◌, ◌++◌, append_assoc, append-nil, Bool, true, false, ℕ, zero, suc, ◌≤◌, ◌<◌, arith, length, drop, replicate, take-append-drop}
use Rattle.std.proofs.Math.Bool.{false≢true}
use Rattle.std.proofs.Math.Option.{Option, none, some}
use Rattle.std.proofs.Math.Seq.{drop-length}
use Rattle.refusal.specs.Base.{maybe, empty}
use Rattle.utf8.specs.Utf8.{within}
use Rattle.utf8.specs.White.{white1, white2, white_at, white_len, leading_from, leading, trim_start, all_white, trim_end, trim}
use Rattle.utf8.proofs.Laws.{white_from, white-fits, white-apart, white-first, from-full, end-apart, is_white, end_take, end_empty, first-none, empty-nil, leading-none}

-- behind a text

module _ (w : ℕ) (ws : List ℕ) (e : white_at w ws ≡ some (length ws)) where
  start-apart : (k : ℕ) (s : List ℕ) → k ≤ length s → drop (leading_from k (s ++ w ∷ ws)) (s ++ w ∷ ws) ≡ (if white_from k s then [] else drop (leading_from k s) s ++ w ∷ ws)
  unfolding leading_from maybe empty
  start-apart zero [] h = rw (e, from-full ws, drop-length ws)
  start-apart (suc k) [] h = absurd (omega arith)
  start-apart (suc k) (b ∷ s) h = start-apart k s (omega arith)
  start-apart zero (b ∷ s) h = rw (white-apart w (white-first w ws (length ws) e) b s ws) (go (white_at b s) refl (λ k. start-apart k s))
    where
      go : (o : Option ℕ) → white_at b s ≡ o → ((k : ℕ) → k ≤ length s → drop (leading_from k (s ++ w ∷ ws)) (s ++ w ∷ ws) ≡ (if white_from k s then [] else drop (leading_from k s) s ++ w ∷ ws))
          → drop (maybe o 0 (λ k. suc (leading_from k (s ++ w ∷ ws)))) (b ∷ s ++ w ∷ ws) ≡ (if empty (drop (maybe o 0 (λ k. suc (leading_from k s))) (b ∷ s)) then [] else drop (maybe o 0 (λ k. suc (leading_from k s))) (b ∷ s) ++ w ∷ ws)
      go none q r = refl
      go (some k) q r = r k (white-fits b s k q)

  trim-apart : (s : List ℕ) → trim (s ++ w ∷ ws) ≡ trim s
  unfolding trim trim_start leading trim_end
  trim-apart s = ap trim_end (start-apart 0 s (omega arith)) ∙ go (white_from 0 s) refl
    where
      go : (x : Bool) → white_from 0 s ≡ x → trim_end (if x then [] else trim_start s ++ w ∷ ws) ≡ trim s
      go true p = sym (ap trim_end (empty-nil (trim_start s) p))
      go false p = end-apart w ws e (trim_start s)

pub trim-white : (s w : List ℕ) → 0 < length w → white_len w ≡ length w → trim (s ++ w) ≡ trim s
trim-white s [] h e = absurd (omega arith)
trim-white s (b ∷ w) h e = trim-apart b w (is_white b w e) s

space : white_len (0x20 ∷ []) ≡ 1
unfolding white_len white_at white1 within maybe
space = refl

pub trim-spaces : (k : ℕ) (s : List ℕ) → trim (s ++ replicate k 0x20) ≡ trim s
trim-spaces zero s = ap trim (append-nil s)
trim-spaces (suc k) s = ap trim (sym (append_assoc s (0x20 ∷ []) (replicate k 0x20))) ∙ trim-spaces k (s ++ 0x20 ∷ []) ∙ trim-white s (0x20 ∷ []) (omega arith) space

-- a byte that no white space begins or ends with is not trimmed, nor is what stands before it
pub end-one : (c : ℕ) → 0x20 < c → c < 0xc0 → trim_end (c ∷ []) ≡ c ∷ []
unfolding trim_end all_white trim_start leading leading_from maybe empty
end-one c h k = rw (first-none c [] h k)

-- what stays, and begins as no white space character goes on, stays behind any text, which stays too
module _ (w : ℕ) (first : 0x80 ≤ w → w < 0xc0 → ⊥) (ws : List ℕ) (e : trim_end (w ∷ ws) ≡ w ∷ ws) where
  from-behind : (k : ℕ) (s : List ℕ) → k ≤ length s → white_from k (s ++ w ∷ ws) ≡ false
  unfolding all_white trim_start leading leading_from maybe empty
  from-behind zero [] h = sym (end_empty (w ∷ ws)) ∙ ap empty e
  from-behind (suc k) [] h = absurd (omega arith)
  from-behind (suc k) (b ∷ s) h = from-behind k s (omega arith)
  from-behind zero (b ∷ s) h = rw (white-apart w first b s ws) (go (white_at b s) refl (λ k. from-behind k s))
    where
      go : (o : Option ℕ) → white_at b s ≡ o → ((k : ℕ) → k ≤ length s → white_from k (s ++ w ∷ ws) ≡ false)
          → empty (drop (maybe o 0 (λ k. suc (leading_from k (s ++ w ∷ ws)))) (b ∷ s ++ w ∷ ws)) ≡ false
      go none q f = refl
      go (some k) q f = f k (white-fits b s k q)

  all-behind : (s : List ℕ) → all_white (s ++ w ∷ ws) ≡ false
  unfolding all_white trim_start leading
  all-behind s = from-behind 0 s (omega arith)

  pub end-behind : (s : List ℕ) → trim_end (s ++ w ∷ ws) ≡ s ++ w ∷ ws
  unfolding trim_end
  end-behind [] = e
  end-behind (b ∷ s) = rw (all-behind (b ∷ s), end-behind s)

-- before a text

-- a character is the same whatever comes behind it
white-longer : (a : ℕ) (s t : List ℕ) (k : ℕ) → white_at a s ≡ some k → white_at a (s ++ t) ≡ some k
unfolding white_at
white-longer a [] t k e = go (white1 a) refl t e
  where
    go : (x : Bool) → white1 a ≡ x → (u : List ℕ) → (if x then some 0 else none) ≡ some k → white_at a u ≡ some k
    go true p [] q = rw p q
    go true p (b ∷ []) q = rw p q
    go true p (b ∷ c ∷ u) q = rw p q
    go false p u q = absurd (let z : ◌≡◌ {A = ℕ} 0 1 = cc in omega arith)
white-longer a (b ∷ []) t k e = go (white1 a) (white2 a b) refl refl t e
  where
    go : (x y : Bool) → white1 a ≡ x → white2 a b ≡ y → (u : List ℕ) → (if x then some 0 else if y then some 1 else none) ≡ some k → white_at a (b ∷ u) ≡ some k
    go true y p r [] q = rw p q
    go true y p r (c ∷ u) q = rw p q
    go false true p r [] q = rw (p, r) q
    go false true p r (c ∷ u) q = rw (p, r) q
    go false false p r u q = absurd (let z : ◌≡◌ {A = ℕ} 0 1 = cc in omega arith)
white-longer a (b ∷ c ∷ s) t k e = e

start-behind : (w s : List ℕ) → drop (leading_from (length w) (w ++ s)) (w ++ s) ≡ trim_start s
unfolding leading_from trim_start leading
start-behind [] s = refl
start-behind (b ∷ w) s = start-behind w s

pub start-white : (w s : List ℕ) → 0 < length w → white_len w ≡ length w → trim_start (w ++ s) ≡ trim_start s
unfolding trim_start leading leading_from maybe
start-white [] s h e = absurd (omega arith)
start-white (b ∷ w) s h e = rw (white-longer b w s (length w) (is_white b w e)) (start-behind w s)

-- trimmed twice

-- what is cut off at the end is all white
end_rest : (s : List ℕ) → all_white (drop (length (trim_end s)) s) ≡ true
unfolding trim_end all_white trim_start leading leading_from empty
end_rest [] = refl
end_rest (b ∷ s) = go (all_white (b ∷ s)) refl (end_rest s)
  where
    go : (x : Bool) → all_white (b ∷ s) ≡ x → all_white (drop (length (trim_end s)) s) ≡ true → all_white (drop (length (if x then [] else b ∷ trim_end s)) (b ∷ s)) ≡ true
    go true p r = p
    go false p r = r

end-split : (s : List ℕ) → trim_end s ++ drop (length (trim_end s)) s ≡ s
end-split s = ap (λ (t : List ℕ). t ++ drop (length (trim_end s)) s) (end_take s) ∙ take-append-drop (length (trim_end s)) s

-- all white, and all white behind it
from-join : (k : ℕ) (s t : List ℕ) → k ≤ length s → white_from k s ≡ true → white_from 0 t ≡ true → white_from k (s ++ t) ≡ true
unfolding leading_from maybe empty
from-join zero [] t h p q = q
from-join (suc k) [] t h p q = absurd (omega arith)
from-join (suc k) (b ∷ s) t h p q = from-join k s t (omega arith) p q
from-join zero (b ∷ s) t h p q = go (white_at b s) refl p (λ k l e. from-join k s t l e q)
  where
    go : (o : Option ℕ) → white_at b s ≡ o → empty (drop (maybe o 0 (λ k. suc (leading_from k s))) (b ∷ s)) ≡ true
        → ((k : ℕ) → k ≤ length s → white_from k s ≡ true → white_from k (s ++ t) ≡ true) → white_from 0 (b ∷ s ++ t) ≡ true
    go none e r f = absurd (false≢true r)
    go (some k) e r f = rw (white-longer b s t k e) (f k (white-fits b s k e) r)

all_join : (s t : List ℕ) → all_white s ≡ true → all_white t ≡ true → all_white (s ++ t) ≡ true
unfolding all_white trim_start leading
all_join s t p q = from-join 0 s t (omega arith) p q

pub end-end : (s : List ℕ) → trim_end (trim_end s) ≡ trim_end s
unfolding trim_end
end-end [] = refl
end-end (b ∷ s) = go (all_white (b ∷ s)) (all_white (b ∷ trim_end s)) refl refl (end-end s)
  where
    go : (x y : Bool) → all_white (b ∷ s) ≡ x → all_white (b ∷ trim_end s) ≡ y → trim_end (trim_end s) ≡ trim_end s → trim_end (if x then [] else b ∷ trim_end s) ≡ (if x then [] else b ∷ trim_end s)
    go true y p q r = refl
    go false true p q r =
        absurd (false≢true (sym p ∙ sym (ap (λ (t : List ℕ). all_white (b ∷ t)) (end-split s)) ∙ all_join (b ∷ trim_end s) (drop (length (trim_end s)) s) q (end_rest s)))
    go false false p q r = rw (q, r)

-- what is trimmed at the start begins with no white space
start_none : (k : ℕ) (s : List ℕ) → white_len (drop (leading_from k s) s) ≡ 0
unfolding white_len leading_from maybe
start_none k [] = refl
start_none (suc k) (b ∷ s) = start_none k s
start_none zero (b ∷ s) = go (white_at b s) refl (λ k. start_none k s)
  where
    go : (o : Option ℕ) → white_at b s ≡ o → ((k : ℕ) → white_len (drop (leading_from k s) s) ≡ 0) → white_len (drop (maybe o 0 (λ k. suc (leading_from k s))) (b ∷ s)) ≡ 0
    go none e f = rw e
    go (some k) e f = f k

-- nor does it without its end
end-none-first : (s : List ℕ) → white_len s ≡ 0 → white_len (trim_end s) ≡ 0
unfolding white_len trim_end maybe
end-none-first [] e = refl
end-none-first (b ∷ s) e = go (all_white (b ∷ s))
  where
    at : (o : Option ℕ) → white_at b (trim_end s) ≡ o → maybe o 0 suc ≡ 0
    at none q = refl
    at (some k) q =
        let p : white_at b s ≡ some k = ap (white_at b) (sym (end-split s)) ∙ white-longer b (trim_end s) (drop (length (trim_end s)) s) k q in
        sym (ap (λ (o : Option ℕ). maybe o 0 suc) p) ∙ e

    go : (x : Bool) → white_len (if x then [] else b ∷ trim_end s) ≡ 0
    go true = refl
    go false = at (white_at b (trim_end s)) refl

start-same : (s : List ℕ) → white_len s ≡ 0 → trim_start s ≡ s
unfolding trim_start
start-same s e = rw (leading-none s e)

pub start-start : (s : List ℕ) → trim_start (trim_start s) ≡ trim_start s
unfolding leading trim_start
start-start s = start-same (trim_start s) (start_none 0 s)

pub trim-trim : (s : List ℕ) → trim (trim s) ≡ trim s
unfolding trim trim_start leading
trim-trim s = ap trim_end (start-same (trim_end (trim_start s)) (end-none-first (trim_start s) (start_none 0 s))) ∙ end-end (trim_start s)
