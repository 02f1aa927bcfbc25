-- One value by its kind: scalars, the schema, sequences. Assumes nothing.
use Rattle.std.specs.Prelude.{if◌then◌else◌}
use Rattle.std.proofs.Common.{Bor, ◌≡◌, ◌≢◌, refl, sym, ap, ◌∙◌, ℕ, zero, suc, ◌+◌, ◌/◌, ◌%◌, ◌<◌, arith, List, [], ◌∷◌, ◌++◌, true, false, eqb, ltb, not, ◌||◌, subst, MatchOption, ℤ, pos, negsuc}
use Rattle.std.proofs.Math.Option.{Option, none, some}
use Rattle.std.proofs.lemmas.Bool.{eq-eqb, eqb-true, ne_eqb, ltb-true, false≢true}
use Rattle.std.specs.Bool.{then_some}
use Rattle.std.specs.Prelude.{Option as Maybe, Some, None}
use Rattle.std.specs.Prelude as flags
use Rattle.refusal.specs.Base.{refused, maybe, bytes, same}
use Rattle.item.specs.Tree.{Yaml, null, bool, int, str, seq, dict, end}
use Rattle.item.specs.Encode.{encode, kind_of, signed}
use Rattle.item.specs.declared.Item.{Item}
use Rattle.item.specs.declared.encoded.Part.{Part}
use Rattle.number.specs.Integers.{decimal_of, int_text}
use Rattle.scalar.specs.Scalars.{bool_text, key_text}
use Rattle.entries.specs.Entries.{Holds, content}
use Rattle.nodes.specs.declared.node.Node.{Node}
use Rattle.nodes.specs.declared.Scalar.{Scalar}
use Rattle.nodes.specs.declared.Scalar.TheVariants.{Bool, Int, Str}
use Rattle.nodes.specs.Contract.{IsItem, FoundNode, FindsNode, AgreesItems, text_of, scalar_text}
use Rattle.meaning.specs.Meanings.{schema, sequence_or}
use Rattle.top.specs.Contract.{no_null, AgreesScalar, IsSequence, AgreesSequence}

-- ---- null is read as a key that is absent

module _ (o : Option Yaml) where
  none_left : o ≡ none → no_null o ≡ none
  unfolding no_null
  none_left e = rw e refl

  null_dropped : {y : Yaml} → o ≡ some y → kind_of y ≡ 0 → no_null o ≡ none
  unfolding no_null
  null_dropped {y} e k = rw (e, eq-eqb (kind_of y) 0 k) refl

  other_left : {y : Yaml} → o ≡ some y → kind_of y ≢ 0 → no_null o ≡ some y
  unfolding no_null
  other_left {y} e k = rw (e, ne_eqb (kind_of y) 0 k) refl

pub not_kind : {b : flags.Bool} {n k : ℕ} (y : Yaml) → b ≡ eqb n k → b ≡ false → n ≡ kind_of y → kind_of y ≢ k
not_kind {n = n} {k = k} y e f q h = false≢true (sym f ∙ e ∙ eq-eqb n k (q ∙ h))

kept-node : (o : Option Yaml) (x : Node) (b : flags.Bool) → b ≡ eqb x.item.kind 0 → FoundNode o x → FindsNode (no_null o) (then_some (not b) x)
kept-node o x true e f = null_dropped o f.is (sym f.node_is.item_is.kind_is ∙ eqb-true _ _ (sym e))
kept-node o x false e f =
    let k = not_kind f.value e refl f.node_is.item_is.kind_is in
    record { value = f.value; is = other_left o f.is k; node_is = f.node_is; whole = f.whole }

pub filtered : (o : Option Yaml) (v r : Maybe Node) (Gives : Node → flags.Bool → Type 0)
    → MatchOption v (r ≡ None) (λ x. (b : flags.Bool) × Gives x b × (r ≡ then_some b x))
    → ((x : Node) (b : flags.Bool) → Gives x b → b ≡ not (eqb x.item.kind 0))
    → FindsNode o v → FindsNode (no_null o) r
filtered o None r Gives m g f = rw m (none_left o f)
filtered o (Some x) r Gives (b, s, e) g f = rw (e, g x b s) (kept-node o x _ refl f)

-- ---- a scalar by its kind

scalar-kind : (y : Yaml) {n : ℕ} → n ≡ kind_of y → AgreesScalar (key_text y) (eqb n 1 || eqb n 2 || eqb n 3)
unfolding kind_of key_text
scalar-kind null e = rw e refl
scalar-kind (bool b) e = rw e (bool_text b, refl)
scalar-kind (int z) e = rw e (int_text z, refl)
scalar-kind (str t) e = rw e (t, refl)
scalar-kind (seq ys) e = rw e refl
scalar-kind (dict es) e = rw e refl

pub scalar-absent : {o : Option Yaml} → o ≡ none → AgreesScalar (scalar_text o) false
unfolding maybe
scalar-absent e = rw e refl

pub scalar-there : (o : Option Yaml) {node : Node} → FoundNode o node → AgreesScalar (scalar_text o) (eqb node.item.kind 1 || eqb node.item.kind 2 || eqb node.item.kind 3)
unfolding maybe
scalar-there o f = rw f.is (scalar-kind f.value f.node_is.item_is.kind_is)

-- ---- the schema: no text of a boolean or an integer is it

abbrev Low : List ℕ → Type 0
Low [] = Unit {0}
Low (b ∷ bs) = b < 112

low-append : (l : List ℕ) (d : ℕ) → d < 112 → Low l → Low (l ++ (d ∷ []))
low-append [] d h k = h
low-append (b ∷ bs) d h k = k

low-choice : (n : ℕ) (l : List ℕ) (t : flags.Bool) → ltb n 10 ≡ t → Low l → Low (if t then (48 + n) ∷ [] else l ++ ((48 + n % 10) ∷ []))
low-choice n l true e k = let h : n < 10 = ltb-true n 10 e in omega arith
low-choice n l false e k = low-append l (48 + n % 10) (omega arith) k

low-decimal : (places n : ℕ) → Low (decimal_of places n)
unfolding decimal_of
low-decimal zero n = tt
low-decimal (suc places) n = low-choice n (decimal_of places (n / 10)) (ltb n 10) refl (low-decimal places (n / 10))

low-int : (z : ℤ) → Low (int_text z)
unfolding int_text
low-int (pos n) = low-decimal 20 n
low-int (negsuc n) = omega arith

low_same : (l : List ℕ) → Low l → false ≡ same l schema
unfolding same schema bytes
low_same [] h = refl
low_same (b ∷ bs) h = rw (ne_eqb b 112 (λ e. omega arith))

bool_same : (b : flags.Bool) → false ≡ same (bool_text b) schema
unfolding bool_text same schema bytes
bool_same true = refl
bool_same false = refl

pub other_schema : (scalar : Scalar) → ((t : Bor (List ℕ)) → scalar ≡ Str t → ⊥) → false ≡ same (text_of scalar) schema
other_schema (Bool b) h = bool_same b
other_schema (Int n) h = low_same (int_text (signed n.negative n.magnitude)) (low-int (signed n.negative n.magnitude))
other_schema (Str t) h = absurd (h t refl)

-- ---- sequences

no_items : (y : Yaml) (n : ℕ) → (kind_of y ≡ 0 → ⊥) → (kind_of y ≡ 4 → ⊥) → sequence_or n (some y) ≡ refused n 0 0
unfolding kind_of sequence_or
no_items null n a b = absurd (a refl)
no_items (bool t) n a b = refl
no_items (int z) n a b = refl
no_items (str t) n a b = refl
no_items (seq ys) n a b = absurd (b refl)
no_items (dict es) n a b = refl

null_is : (y : Yaml) → kind_of y ≡ 0 → y ≡ null
unfolding kind_of
null_is null k = refl
null_is (bool t) k = absurd (omega (arith, k))
null_is (int z) k = absurd (omega (arith, k))
null_is (str t) k = absurd (omega (arith, k))
null_is (seq ys) k = absurd (omega (arith, k))
null_is (dict es) k = absurd (omega (arith, k))

null-holds : {s : List ℕ} {item : Item} → IsItem s null item → Holds s item.from item.to end
unfolding content encode
null-holds i = record { ranged = tt; lies = record { stands = i.stands; ends = i.ends } }

module _ (o : Option Yaml) where
  pub sequence-absent : (part : Part) → o ≡ none → part.from ≡ 0 → part.to ≡ 0 → IsSequence o part
  unfolding sequence_or encode
  sequence-absent part e p q = record {
    items = end;
    is = λ n. ap (sequence_or n) e;
    holds = rw (p, q) (record { ranged = tt; lies = record { stands = record { rest = part.bytes.now; here = refl; within = omega arith }; ends = refl } });
  }

  module _ {node : Node} (f : FoundNode o node) where
    pub sequence-empty : (part : Part) → node.item.kind ≡ 0 → part.bytes ≡ node.bytes → part.from ≡ node.item.from → part.to ≡ node.item.to → IsSequence o part
    unfolding sequence_or
    sequence-empty part k b p q =
        let e : f.value ≡ null = null_is f.value (sym f.node_is.item_is.kind_is ∙ k) in
        record {
          items = end;
          is = λ n. ap (sequence_or n) (f.is ∙ ap some e);
          holds = rw (b, p, q) (null-holds (subst (λ (y : Yaml). IsItem node.bytes.now y node.item) e f.node_is.item_is));
        }

    pub sequence-there : (r : Maybe Part) → node.item.kind ≢ 0 → AgreesItems f.value r → AgreesSequence o r
    unfolding sequence_or
    sequence-there (Some part) k i = record { items = i.items; is = λ n. ap (sequence_or n) (f.is ∙ ap some i.is); holds = i.holds }
    sequence-there None k i = λ n. ap (sequence_or n) f.is ∙ no_items f.value n (λ e. k (f.node_is.item_is.kind_is ∙ e)) i
