-- The running sum of a reading is what its tree's encoding takes. Assumes nothing.
use Rattle.std.proofs.Common.{◌≡◌, refl, sym, ap, ◌∙◌, subst, ℕ, zero, suc, ◌+◌, arith, List, [], ◌∷◌, Bool, true, false, ◌&&◌, ◌||◌, not, eqb, leb, length}
use Rattle.std.proofs.Math.Option.{Option, none, some, some-injective, none-ne-some}
use Rattle.refusal.specs.Base.{Answer, good, ensure, given, ch}
use Rattle.utf8.specs.White.{trim}
use Rattle.item.specs.Tree.{Yaml, null, bool, int, str, seq, dict, Items, end, ◌▸◌, ◌◂◌, no_item, Entries, done, pair, add, no_entry}
use Rattle.number.specs.Integers.{int_text}
use Rattle.scalar.specs.Scalars.{key_text, bool_text}
use Rattle.scalar.specs.declared.Role.{Role}
use Rattle.scalar.specs.declared.Role.TheVariants.{AsValue, AsKey}
use Rattle.scalar.specs.Read.{cost, Got, Reader, charge, scalar, plain, plain_text, string, skip_spaces, stop}
use Rattle.scalar.proofs.Laws.{Flat, flat_scalar}
use Rattle.flow.specs.Flow.{stuck, item_turn, items, behind_colon, fresh, entry_value, entry_turn, entries, flow_seq, flow_map, node, value, flow}
use Rattle.item.proofs.Size.{size}
use Rattle.refusal.proofs.Tools.{good-inj, refused≢good, bound, bound', chosen}

-- what a value adds in its role
abbrev pub weight : Role → Yaml → ℕ
weight AsValue y = size y
weight AsKey null = 0
weight AsKey (bool b) = 6 + length (bool_text b)
weight AsKey (int z) = 6 + length (int_text z)
weight AsKey (str s) = 6 + length s
weight AsKey (seq ys) = size (seq ys)
weight AsKey (dict es) = size (dict es)

pub size-snoc : (ys : Items) (y : Yaml) → size (ys ◂ y) ≡ size ys + size y
unfolding ◌◂◌
size-snoc end y = omega arith
size-snoc (x ▸ xs) y = omega (arith, size-snoc xs y)

pub size-add : (es : Entries) (k : List ℕ) (v : Yaml) → size (add es k v) ≡ size es + (6 + length k + size v)
unfolding add
size-add done k v = omega arith
size-add (pair j u es) k v = omega (arith, size-add es k v)

pub charged : (cap sum k s : ℕ) → charge cap sum k ≡ good s → s ≡ sum + k
unfolding charge
charged cap sum k s e = chosen (leb (sum + k) cap) _ _ e (λ _ p. sym (good-inj _ _ p)) (λ _ p. refused≢good s 50 0 0 p)

-- a reader whose sums are right
abbrev pub Sums : Reader → Type 0
Sums f = (role : Role) (sum : ℕ) (bs : List ℕ) (g : Got Yaml) → f role sum bs ≡ good g → g.1 ≡ sum + weight role g.0

-- what a scalar adds is what it weighs
pub cost-scalar : (role : Role) (y : Yaml) → Flat y → cost role y ≡ weight role y
unfolding cost
cost-scalar AsValue null h = refl
cost-scalar AsValue (bool b) h = refl
cost-scalar AsValue (int z) h = refl
cost-scalar AsValue (str s) h = refl
cost-scalar AsValue (seq ys) h = absurd h
cost-scalar AsValue (dict es) h = absurd h
cost-scalar AsKey null h = refl
cost-scalar AsKey (bool b) h = refl
cost-scalar AsKey (int z) h = refl
cost-scalar AsKey (str s) h = refl
cost-scalar AsKey (seq ys) h = absurd h
cost-scalar AsKey (dict es) h = absurd h

module _ (cap n : ℕ) where
  scalar-sum : (role : Role) (sum : ℕ) (y : Yaml) (rest : List ℕ) (g : Got Yaml) → Flat y → scalar cap n role sum y rest ≡ good g → g.1 ≡ sum + weight role g.0
  unfolding scalar
  scalar-sum role sum y rest g h e = bound (charge cap sum (cost role y)) _ g e λ s p q.
      rw (← good-inj _ _ q) (charged cap sum (cost role y) s p ∙ ap (λ (k : ℕ). sum + k) (cost-scalar role y h))

  -- ---- sequences: of a turn, then of all

  abbrev ItemsSum : (Items → ℕ → List ℕ → Answer (Got Items)) → Type 0
  ItemsSum more = (got : Items) (sum : ℕ) (bs : List ℕ) (g : Got Items) → more got sum bs ≡ good g → g.1 + size got ≡ sum + size g.0

  item_turn-sum : (inside : Reader) (more : Items → ℕ → List ℕ → Answer (Got Items)) → Sums inside → ItemsSum more → ItemsSum (item_turn cap n inside more)
  unfolding item_turn stop
  item_turn-sum inside more h ih got sum [] g e = refused≢good g 10 n 0 e
  item_turn-sum inside more h ih got sum (b ∷ bs) g e =
      chosen (eqb b (ch "]")) _ _ e (λ _ q. rw (← good-inj _ _ q) (omega arith))
      λ _ p. chosen (eqb b (ch ",") && not (no_item got)) _ _ p (λ _ q. ih got sum bs g q)
      λ _ p. chosen (stuck b bs) _ _ p (λ _ q. refused≢good g 19 n 0 q)
      λ _ p. bound (inside AsValue sum (b ∷ bs)) _ g p λ x q r.
      omega (arith, h AsValue sum (b ∷ bs) x q, ih (got ◂ x.0) x.1 x.2 g r, size-snoc got x.0)

  items-sum : (inside : Reader) → Sums inside → (t : ℕ) → ItemsSum (items cap n inside t)
  unfolding items stop
  items-sum inside h zero got sum bs g e = refused≢good g 10 n 0 e
  items-sum inside h (suc t) got sum bs g e = item_turn-sum inside _ h (items-sum inside h t) got sum (skip_spaces bs) g e

  -- ---- mappings

  abbrev EntriesSum : (Entries → ℕ → List ℕ → Answer (Got Entries)) → Type 0
  EntriesSum more = (got : Entries) (sum : ℕ) (bs : List ℕ) (g : Got Entries) → more got sum bs ≡ good g → g.1 + size got ≡ sum + size g.0

  pub key-weight : (y : Yaml) (k : List ℕ) → given (key_text y) 16 n 0 ≡ good k → weight AsKey y ≡ 6 + length k
  unfolding given key_text
  key-weight null k e = refused≢good k 16 n 0 e
  key-weight (bool b) k e = ap (λ (s : List ℕ). 6 + length s) (good-inj _ _ e)
  key-weight (int z) k e = ap (λ (s : List ℕ). 6 + length s) (good-inj _ _ e)
  key-weight (str s) k e = ap (λ (s : List ℕ). 6 + length s) (good-inj _ _ e)
  key-weight (seq ys) k e = refused≢good k 16 n 0 e
  key-weight (dict es) k e = refused≢good k 16 n 0 e

  entry_value-sum : (inside : Reader) → Sums inside → (sum : ℕ) (bs : List ℕ) (g : Got Yaml) → entry_value cap n inside sum bs ≡ good g → g.1 ≡ sum + size g.0
  unfolding entry_value
  entry_value-sum inside h sum [] g e = h AsValue sum [] g e
  entry_value-sum inside h sum (b ∷ bs) g e =
      chosen (eqb b (ch ",") || eqb b (ch "}")) _ _ e (λ _ q. scalar-sum AsValue sum null (b ∷ bs) g tt q) (λ _ q. h AsValue sum (b ∷ bs) g q)

  entry_turn-sum : (inside : Reader) (more : Entries → ℕ → List ℕ → Answer (Got Entries)) → Sums inside → EntriesSum more → EntriesSum (entry_turn cap n inside more)
  unfolding entry_turn stop
  entry_turn-sum inside more h ih got sum [] g e = refused≢good g 9 n 0 e
  entry_turn-sum inside more h ih got sum (b ∷ bs) g e =
      chosen (eqb b (ch "}")) _ _ e (λ _ q. rw (← good-inj _ _ q) (omega arith))
      λ _ p. chosen (eqb b (ch ",") && not (no_entry got)) _ _ p (λ _ q. ih got sum bs g q)
      λ _ p. bound (inside AsKey sum (b ∷ bs)) _ g p
      λ x q p. bound (given (key_text x.0) 16 n 0) _ g p
      λ k qk p. bound (behind_colon cap n (skip_spaces x.2)) _ g p
      λ r qr p. bound (entry_value cap n inside x.1 (skip_spaces r)) _ g p
      λ v qv p. bound' (fresh cap n k got) _ g p
      λ p. omega (
        arith,
        h AsKey sum (b ∷ bs) x q,
        key-weight x.0 k qk,
        entry_value-sum inside h x.1 (skip_spaces r) v qv,
        ih (add got k v.0) v.1 v.2 g p,
        size-add got k v.0,
      )

  entries-sum : (inside : Reader) → Sums inside → (t : ℕ) → EntriesSum (entries cap n inside t)
  unfolding entries stop
  entries-sum inside h zero got sum bs g e = refused≢good g 9 n 0 e
  entries-sum inside h (suc t) got sum bs g e = entry_turn-sum inside _ h (entries-sum inside h t) got sum (skip_spaces bs) g e

  -- ---- a value

  flow_seq-sum : (inside : Option Reader) → ((f : Reader) → inside ≡ some f → Sums f) → (role : Role) (sum : ℕ) (bs : List ℕ) (g : Got Yaml) → flow_seq cap n inside sum bs ≡ good g → g.1 ≡ sum + weight role g.0
  unfolding flow_seq stop
  flow_seq-sum none h role sum bs g e = refused≢good g 20 n 0 e
  flow_seq-sum (some f) h role sum bs g e = bound (charge cap sum 6) _ g e
      λ s p q. bound (items cap n f (suc (length bs)) end s bs) _ g q
      λ x q r. rw (← good-inj _ _ r) (opened role x.0 (omega (arith, charged cap sum 6 s p, items-sum f (h f refl) (suc (length bs)) end s bs x q)))
    where
      opened : (role : Role) (ys : Items) {a : ℕ} → a ≡ sum + (6 + size ys) → a ≡ sum + weight role (seq ys)
      opened AsValue ys p = p
      opened AsKey ys p = p

  flow_map-sum : (inside : Option Reader) → ((f : Reader) → inside ≡ some f → Sums f) → (role : Role) (sum : ℕ) (bs : List ℕ) (g : Got Yaml) → flow_map cap n inside sum bs ≡ good g → g.1 ≡ sum + weight role g.0
  unfolding flow_map stop
  flow_map-sum none h role sum bs g e = refused≢good g 20 n 0 e
  flow_map-sum (some f) h role sum bs g e = bound (charge cap sum 6) _ g e
      λ s p q. bound (entries cap n f (suc (length bs)) done s bs) _ g q
      λ x q r. rw (← good-inj _ _ r) (opened role x.0 (omega (arith, charged cap sum 6 s p, entries-sum f (h f refl) (suc (length bs)) done s bs x q)))
    where
      opened : (role : Role) (es : Entries) {a : ℕ} → a ≡ sum + (6 + size es) → a ≡ sum + weight role (dict es)
      opened AsValue es p = p
      opened AsKey es p = p

  string-sum : (role : Role) (sum : ℕ) (t : Answer (List ℕ × List ℕ)) (g : Got Yaml) → string cap n role sum t ≡ good g → g.1 ≡ sum + weight role g.0
  unfolding string
  string-sum role sum t g e = bound t _ g e λ x p q. scalar-sum role sum (str x.0) x.1 g tt q

  node-sum : (inside : Option Reader) → ((f : Reader) → inside ≡ some f → Sums f) → (in_flow : Bool) → Sums (node cap n inside in_flow)
  unfolding node plain stop
  node-sum inside h in_flow role sum [] g e = scalar-sum role sum null [] g tt e
  node-sum inside h in_flow role sum (b ∷ bs) g e =
      chosen (eqb b (ch "{")) _ _ e (λ _ q. flow_map-sum inside h role sum bs g q)
      λ _ p. chosen (eqb b (ch "[")) _ _ p (λ _ q. flow_seq-sum inside h role sum bs g q)
      λ _ p. chosen (eqb b (ch "\"")) _ _ p (λ _ q. string-sum role sum _ g q)
      λ _ p. chosen (eqb b (ch "'")) _ _ p (λ _ q. string-sum role sum _ g q)
      λ _ p. chosen (eqb b (ch "&") || eqb b (ch "*") || eqb b (ch "!")) _ _ p (λ _ q. refused≢good g 7 n 0 q)
      λ _ p. scalar-sum role sum _ _ g (flat_scalar (trim (plain_text in_flow (b ∷ bs)).0)) p

  value-sum : (levels : ℕ) (in_flow : Bool) → Sums (value cap n levels in_flow)
  unfolding value
  value-sum zero in_flow role sum bs g e = node-sum none (λ f p. absurd (none-ne-some f p)) in_flow role sum bs g e
  value-sum (suc l) in_flow role sum bs g e =
      node-sum (some (λ r s b. value cap n l true r s b)) (λ f p. subst Sums (some-injective _ _ p) (value-sum l true)) in_flow role sum bs g e

  -- the running sum behind one line's value is the sum before it and the length of what the value is written to
  pub flow-sum : (levels : ℕ) (role : Role) (sum : ℕ) (t : List ℕ) (g : Yaml × ℕ) → flow cap n levels role sum t ≡ good g → g.1 ≡ sum + weight role g.0
  unfolding flow
  flow-sum levels role sum t g e = bound (value cap n levels false role sum (skip_spaces t)) _ g e
      λ x p q. bound' (ensure _ 8 n 0) _ g q
      λ r. rw (← good-inj _ _ r) (value-sum levels false role sum (skip_spaces t) x p)
