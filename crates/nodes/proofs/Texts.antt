-- What the items of values say: which text a value has, and an integer's sign and magnitude. Assumes nothing.
use Rattle.std.proofs.Common.{Bor, ◌≡◌, ◌≢◌, refl, sym, ap, ◌∙◌, ℕ, suc, ◌-◌, ◌≤◌, ◌<◌, ◌^◌, arith, [], List, Bool, true, false, not, eqb, ltb, length, take, drop, get_or, ℤ, pos, negsuc}
use Rattle.std.proofs.Math.Option.{Option, none, some}
use Rattle.std.proofs.lemmas.Bool.{eq-eqb, eqb-true, false≢true}
use Rattle.std.proofs.lemmas.Option.{none-some}
use Rattle.std.specs.Int.Signed.{mag}
use Rattle.std.specs.Int.{w64, cast_signed}
use Rattle.std.specs.Prelude.{nat_eq, Option as Maybe, Some, None, Result, Ok, Err, IfSome}
use Rattle.std.specs.Bool.{then_some}
use Rattle.std.specs.Result.{result_ok}
use Rattle.refusal.specs.Base.{maybe, bytes}
use Rattle.item.specs.Tree.{Yaml, null, bool, int, str, seq, dict, Ranged}
use Rattle.item.specs.Encode.{number, le, twos, flag, item, encode, kind_of}
use Rattle.item.specs.Places.{header_at}
use Rattle.item.specs.Decode.{untwos}
use Rattle.item.specs.declared.Item.{Item}
use Rattle.item.specs.Kinds.{number_of}
use Rattle.item.specs.declared.Kind.{Kind}
use Rattle.item.specs.declared.Kind.TheVariants as kinds
use Rattle.item.specs.declared.Broken.{Broken}
use Rattle.item.specs.declared.encoded.Part.{Part}
use Rattle.item.proofs.RoundTrip.{number-le, twos_back, twos_small}
use Rattle.item.proofs.Size.{le-length}
use Rattle.number.specs.Integers.{int_text}
use Rattle.number.proofs.Laws.{decimal-twenty}
use Rattle.scalar.specs.Scalars.{key_text, bool_text}
use Rattle.entries.specs.Entries.{Stands, content}
use Rattle.entries.proofs.Standing.{stands-part, stands-byte, value-size, value-head, valued}
use Rattle.entries.proofs.Values.{entries-of, items_of}
use Rattle.meaning.specs.Meanings.{or_empty}
use Rattle.meaning.specs.Record.{optional, text_item}
use Rattle.nodes.specs.declared.node.Node.{Node}
use Rattle.nodes.specs.declared.Scalar.{Scalar}
use Rattle.nodes.specs.declared.Scalar.TheVariants as scalars
use Rattle.nodes.specs.Contract.{told_of, AgreesMapping, AgreesItems, AgreesScalar, IsItem, IsNode, FoundNode, NodeOf, IsMapping, IsItems, scalar_text, text_or_empty, or_null}

-- ---- integers

pub sign-is : (n : ℕ) → cast_signed w64 n ≡ untwos n
unfolding untwos
sign-is n = go (ltb n (2 ^ 63)) refl
  where
    go : (b : Bool) → ltb n (2 ^ 63) ≡ b → cast_signed w64 n ≡ untwos n
    go true e = rw e refl
    go false e = rw e (ap negsuc (omega arith))

pub int_back : {s : List ℕ} {p : ℕ} (x : ℤ) → mag x < 2 ^ 63 → Stands s p (content (int x)) → untwos (number (take 8 (drop p s))) ≡ x
unfolding content
int_back {s} {p} x g st =
    let j : take 8 (drop p s) ≡ le 8 (twos x) = stands-part st 8 (sym (le-length 8 (twos x))) in
    ap (λ (l : List ℕ). untwos (number l)) j ∙ ap untwos (number-le 8 (twos x) (twos_small x g)) ∙ twos_back x g

-- ---- the scalar that a value is, by its item's kind

pub other_kind : {b : Bool} (n m : ℕ) → b ≡ eqb n m → b ≡ false → n ≡ m → ⊥
other_kind n m e f k = false≢true (sym f ∙ e ∙ eq-eqb n m k)

flag-told : (n : ℕ) (b : Bool) → n ≡ flag b → not (nat_eq n 0) ≡ b
unfolding flag
flag-told n true e = rw e refl
flag-told n false e = rw e refl

module _ {s : List ℕ} {item : Item} where
  pub bool_is : (y : Yaml) → item.kind ≡ 1 → IsItem s y item → y ≡ bool (not (nat_eq (get_or s item.from 0) 0))
  unfolding kind_of content
  bool_is null k i = absurd (omega (arith, i.kind_is))
  bool_is (bool b) k i = ap bool (sym (flag-told (get_or s item.from 0) b (stands-byte i.stands)))
  bool_is (int z) k i = absurd (omega (arith, i.kind_is))
  bool_is (str t) k i = absurd (omega (arith, i.kind_is))
  bool_is (seq ys) k i = absurd (omega (arith, i.kind_is))
  bool_is (dict es) k i = absurd (omega (arith, i.kind_is))

  pub int_is : (z : ℤ) (y : Yaml) → item.kind ≡ 2 → Ranged y → IsItem s y item → z ≡ untwos (number (take 8 (drop item.from s))) → y ≡ int z
  unfolding kind_of
  int_is z null k g i e = absurd (omega (arith, i.kind_is))
  int_is z (bool b) k g i e = absurd (omega (arith, i.kind_is))
  int_is z (int x) k g i e = ap int (sym (e ∙ int_back x g i.stands))
  int_is z (str t) k g i e = absurd (omega (arith, i.kind_is))
  int_is z (seq ys) k g i e = absurd (omega (arith, i.kind_is))
  int_is z (dict es) k g i e = absurd (omega (arith, i.kind_is))

  pub str_is : (y : Yaml) → item.kind ≡ 3 → IsItem s y item → y ≡ str (take (item.to - item.from) (drop item.from s))
  unfolding kind_of content
  str_is null k i = absurd (omega (arith, i.kind_is))
  str_is (bool b) k i = absurd (omega (arith, i.kind_is))
  str_is (int z) k i = absurd (omega (arith, i.kind_is))
  str_is (str t) k i = ap str (sym (stands-part i.stands (item.to - item.from) (omega (arith, i.ends))))
  str_is (seq ys) k i = absurd (omega (arith, i.kind_is))
  str_is (dict es) k i = absurd (omega (arith, i.kind_is))

  pub no_int : (y : Yaml) → IsItem s y item → (item.kind ≡ 2 → item.to - item.from < 8) → kind_of y ≢ 2
  unfolding kind_of content
  no_int null i b = λ k. absurd (omega (arith, k))
  no_int (bool x) i b = λ k. absurd (omega (arith, k))
  no_int (int x) i b = λ k. omega (arith, i.ends, le-length 8 (twos x), b i.kind_is)
  no_int (str x) i b = λ k. absurd (omega (arith, k))
  no_int (seq x) i b = λ k. absurd (omega (arith, k))
  no_int (dict x) i b = λ k. absurd (omega (arith, k))

  -- none of the three, or too short to be one
  pub nothing_told : (y : Yaml) → IsItem s y item → (item.kind ≡ 1 → item.to ≤ item.from) → item.kind ≢ 2 → item.kind ≢ 3 → none ≡ key_text y
  unfolding kind_of key_text content
  nothing_told null i a b c = refl
  nothing_told (bool x) i a b c = absurd (omega (arith, i.ends, a i.kind_is))
  nothing_told (int x) i a b c = absurd (b i.kind_is)
  nothing_told (str x) i a b c = absurd (c i.kind_is)
  nothing_told (seq x) i a b c = refl
  nothing_told (dict x) i a b c = refl

  pub no_kind : (y : Yaml) → IsItem s y item → ((k : Kind) → item.kind ≢ number_of k) → none ≡ key_text y
  no_kind y i n = nothing_told y i (λ e. absurd (n kinds.Bool e)) (n kinds.Int) (n kinds.Str)

  pub other_told : (k : Kind) (y : Yaml) → IsItem s y item → item.kind ≡ number_of k → k ≢ kinds.Bool → k ≢ kinds.Int → k ≢ kinds.Str → none ≡ key_text y
  other_told kinds.Null y i e b n t = nothing_told y i (λ q. absurd (omega (arith, q, e))) (λ q. omega (arith, q, e)) (λ q. omega (arith, q, e))
  other_told kinds.Bool y i e b n t = absurd (b refl)
  other_told kinds.Int y i e b n t = absurd (n refl)
  other_told kinds.Str y i e b n t = absurd (t refl)
  other_told kinds.Seq y i e b n t = nothing_told y i (λ q. absurd (omega (arith, q, e))) (λ q. omega (arith, q, e)) (λ q. omega (arith, q, e))
  other_told kinds.Map y i e b n t = nothing_told y i (λ q. absurd (omega (arith, q, e))) (λ q. omega (arith, q, e)) (λ q. omega (arith, q, e))
  other_told kinds.Scenario y i e b n t = nothing_told y i (λ q. absurd (omega (arith, q, e))) (λ q. omega (arith, q, e)) (λ q. omega (arith, q, e))
  other_told kinds.Defaults y i e b n t = nothing_told y i (λ q. absurd (omega (arith, q, e))) (λ q. omega (arith, q, e)) (λ q. omega (arith, q, e))
  other_told kinds.Steps y i e b n t = nothing_told y i (λ q. absurd (omega (arith, q, e))) (λ q. omega (arith, q, e)) (λ q. omega (arith, q, e))
  other_told kinds.Step y i e b n t = nothing_told y i (λ q. absurd (omega (arith, q, e))) (λ q. omega (arith, q, e)) (λ q. omega (arith, q, e))

-- a scalar's text
pub told : (y : Yaml) (r : Maybe Scalar) → AgreesScalar y r → told_of r ≡ key_text y
unfolding key_text
told y None e = e
told y (Some (scalars.Bool b)) e = rw e refl
told y (Some (scalars.Int n)) e = rw e refl
told y (Some (scalars.Str t)) e = rw e refl

-- ---- how long a text is

pub int_short : (z : ℤ) → length (int_text z) ≤ 2 ^ 20
unfolding int_text
int_short (pos m) = omega (arith, decimal-twenty m)
int_short (negsuc m) = omega (arith, decimal-twenty (suc m))

pub bool_short : (b : Bool) → length (bool_text b) ≤ 2 ^ 20
unfolding bool_text bytes
bool_short true = omega arith
bool_short false = omega arith

-- ---- what was looked for

there : {A B : Type 0} (r : Result A B) {x : A} → Some x ≡ result_ok r → Ok x ≡ r
there (Ok y) e = cc e
there (Err b) e = cc e

-- the node of a value that stands at a place
module _ {s : List ℕ} {p : ℕ} {r : Result Item Broken} (h : r ≡ header_at s p) (y : Yaml) (g : Ranged y) (small : length s ≤ 2 ^ 20) (st : Stands s p (encode y)) where
  pub node-item : {item : Item} → Some item ≡ result_ok r → Ranged y × IsItem s y item
  node-item e =
      let v = valued (there r e ∙ h) y small st in
      (g, record { kind_is = v.kind_is; stands = v.inside; ends = v.ends })

  pub no-node : None ≡ result_ok r → ⊥
  no-node e = none-some _ (e ∙ ap result_ok (h ∙ value-head y small st))

-- what `Node::at` tells of a value that was found
pub node_of : (o : Maybe Node) (all : Bor (List ℕ)) → IfSome o (λ (node : Node). node.bytes ≡ all) → NodeOf all.now o
node_of (Some node) all h = ap (λ (x : Bor (List ℕ)). x.now) h
node_of None all h = tt

-- ---- its entries, its items

module _ (part : Part) {node : Node} (b : part.bytes ≡ node.bytes) (p : part.from ≡ node.item.from) (q : part.to ≡ node.item.to) (y : Yaml) (i : IsNode y node) where
  node_mapping : node.item.kind ≡ 5 → IsMapping y part
  node_mapping k =
      let m = entries-of y i.ranged i.item_is.stands i.item_is.ends (sym i.item_is.kind_is ∙ k) in
      record { entries = m.inner; is = m.is; holds = rw (b, p, q) m.holds }

  node_items : node.item.kind ≡ 4 → IsItems y part
  node_items k =
      let m = items_of y i.ranged i.item_is.stands i.item_is.ends (sym i.item_is.kind_is ∙ k) in
      record { items = m.inner; is = m.is; holds = rw (b, p, q) m.holds }

  pub mapping_if : (t : Bool) → t ≡ eqb node.item.kind 5 → AgreesMapping y (then_some t part)
  mapping_if true e = node_mapping (eqb-true _ _ (sym e))
  mapping_if false e = λ k. other_kind _ _ e refl (i.item_is.kind_is ∙ k)

  pub sequence_if : (t : Bool) → t ≡ eqb node.item.kind 4 → AgreesItems y (then_some t part)
  sequence_if true e = node_items (eqb-true _ _ (sym e))
  sequence_if false e = λ k. other_kind _ _ e refl (i.item_is.kind_is ∙ k)

pub nothing_there : (o : Option Yaml) → o ≡ none → none ≡ scalar_text o
unfolding maybe
nothing_there o e = rw e refl

pub text_there : (o : Option Yaml) (y : Yaml) {t : Option (List ℕ)} → o ≡ some y → t ≡ key_text y → t ≡ scalar_text o
unfolding maybe
text_there o y e t = rw e t

-- ---- what is written of it

module _ (o : Option Yaml) where
  pub text-item : {x t : List ℕ} → some x ≡ scalar_text o → t ≡ text_or_empty o → item 3 x ≡ text_item t
  unfolding text_item encode or_empty maybe
  text-item {x} {t} e q = rw (q, ← e) refl

  pub empty-item : {t : List ℕ} → none ≡ scalar_text o → t ≡ text_or_empty o → item 3 [] ≡ text_item t
  unfolding text_item encode or_empty maybe
  empty-item e q = rw (q, ← e) refl

  pub optional-item : {x : List ℕ} {t : Option (List ℕ)} → some x ≡ scalar_text o → t ≡ scalar_text o → item 3 x ≡ encode (optional t)
  unfolding optional encode
  optional-item e q = rw (q, ← e) refl

  pub null-item : {t : Option (List ℕ)} → none ≡ scalar_text o → t ≡ scalar_text o → encode null ≡ encode (optional t)
  unfolding optional
  null-item e q = rw (q, ← e) refl

  pub no-value : {v : Yaml} → o ≡ none → v ≡ or_null o → encode null ≡ encode v
  unfolding maybe
  no-value e q = rw (q, e) refl

  pub value-part : {node : Node} {v : Yaml} → FoundNode o node → v ≡ or_null o
      → take (node.item.to - (node.item.from - 6)) (drop (node.item.from - 6) node.bytes.now) ≡ encode v
  unfolding maybe
  value-part {node} {v} f q =
      let e : v ≡ f.value = rw (q, f.is) refl in
      rw e (stands-part f.whole (node.item.to - (node.item.from - 6)) (omega (arith, node.inside, f.node_is.item_is.ends, value-size f.value)))
