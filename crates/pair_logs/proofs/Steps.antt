-- What the walk along two logs does, step by step. Assumes nothing.
use Rattle.std.proofs.Common.{◌≡◌, refl, ℕ, zero, suc, ◌+◌, ◌≤◌, ◌<◌, add-one, arith, ⊎_elim, List, Bool, true, false, length, get_or}
use Rattle.std.proofs.lemmas.Bool.{cases_lt}
use Rattle.pair_logs.specs.PairLogs.{Pairing, nothing, pair, lone_hammer, lone_sound, near, pairing, never_falls}
use Rattle.pair_logs.specs.Contract.{walk_at}
use Rattle.pair_logs.proofs.Turns.{at_pair, at-hammer, at-sound, no-sound, no-hammer, at-end}
use Rattle.pair_logs.proofs.Laws.{near-true, near-false, in_order}

-- the steps from position i of the hammers and j of the sounds on: who is left alone has nobody near among those to come
pub data Placed (hammers sounds : List ℕ) : ℕ → ℕ → Pairing → Type 0 where
  ended : (i j : ℕ) → i ≡ length hammers → j ≡ length sounds → Placed hammers sounds i j nothing
  paired : (i j : ℕ) {r : Pairing} → i < length hammers → j < length sounds → near (get_or hammers i 0) (get_or sounds j 0) ≡ true →
      Placed hammers sounds (suc i) (suc j) r → Placed hammers sounds i j (pair i j r)
  hammer_alone : (i j : ℕ) {r : Pairing} → ((b : ℕ) → j ≤ b → b < length sounds → near (get_or hammers i 0) (get_or sounds b 0) ≡ true → ⊥) →
      Placed hammers sounds (suc i) j r → Placed hammers sounds i j (lone_hammer i r)
  sound_alone : (i j : ℕ) {r : Pairing} → ((a : ℕ) → i ≤ a → a < length hammers → near (get_or hammers a 0) (get_or sounds j 0) ≡ true → ⊥) →
      Placed hammers sounds i (suc j) r → Placed hammers sounds i j (lone_sound j r)

module _ (hammers sounds : List ℕ) (h_never : never_falls 0 hammers ≡ true) (s_never : never_falls 0 sounds ≡ true) where
  -- one step, if the steps behind it are known
  step : (i j : ℕ) → i ≤ length hammers → j ≤ length sounds →
      ((a b : ℕ) → a ≤ length hammers → b ≤ length sounds → i + j < a + b → Placed hammers sounds a b (walk_at hammers sounds a b)) → Placed hammers sounds i j (walk_at hammers sounds i j)
  step i j h s on = ⊎_elim
      (λ a. ⊎_elim
      (λ b. both a b (near (get_or hammers i 0) (get_or sounds j 0)) refl)
      (λ e. rw (no-sound hammers sounds i j a e, add-one i) (hammer_alone i j (λ b m l n. omega arith) (on (suc i) j a s (omega arith))))
      (cases_lt j (length sounds)))
      (λ d. ⊎_elim
      (λ b. rw (no-hammer hammers sounds i j d b, add-one j) (sound_alone i j (λ a m l n. omega arith) (on i (suc j) h b (omega arith))))
      (λ e. rw (at-end hammers sounds i j d e) (ended i j (omega arith) (omega arith)))
      (cases_lt j (length sounds)))
      (cases_lt i (length hammers))
    where
      both : i < length hammers → j < length sounds → (t : Bool) → near (get_or hammers i 0) (get_or sounds j 0) ≡ t → Placed hammers sounds i j (walk_at hammers sounds i j)
      both a b true n = rw (at_pair hammers sounds i j a b n, add-one i, add-one j) (paired i j a b n (on (suc i) (suc j) a b (omega arith)))
      both a b false n = ⊎_elim
          (λ o. rw (at-hammer hammers sounds i j a b n o, add-one i) (hammer_alone i j
          (λ c m l x. let y = near-true _ _ x in near-false n (omega arith) (omega (arith, in_order sounds s_never j c m l)))
          (on (suc i) j a s (omega arith))))
          (λ o. rw (at-sound hammers sounds i j a b n o, add-one j) (sound_alone i j
          (λ c m l x. let y = near-true _ _ x in near-false n (omega (arith, in_order hammers h_never i c m l)) (omega arith))
          (on i (suc j) h b (omega arith))))
          (cases_lt (get_or hammers i 0) (get_or sounds j 0))

  -- k bounds the steps to come
  steps : (k i j : ℕ) → i ≤ length hammers → j ≤ length sounds → length hammers + length sounds < i + j + k → Placed hammers sounds i j (walk_at hammers sounds i j)
  steps zero i j h s m = absurd (omega arith)
  steps (suc k) i j h s m = step i j h s (λ a b x y l. steps k a b x y (omega arith))

  pub placed : Placed hammers sounds 0 0 (pairing hammers sounds)
  unfolding pairing walk_at
  placed = steps (suc (length hammers + length sounds)) 0 0 (omega arith) (omega arith) (omega arith)
