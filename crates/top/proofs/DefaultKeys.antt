-- The walk along the defaults, and their item. Assumes nothing.
use Rattle.std.specs.Prelude.{if◌then◌else◌, Option as Maybe, Some, None, Result, Ok, IfSome, IsSomeAnd}
use Rattle.std.proofs.lemmas.Bool.{false≢true}
use Rattle.std.proofs.Common.{Bor, length, ◌^◌, ◌≡◌, ◌≢◌, refl, sym, ap, ◌∙◌, ℕ, ◌+◌, ◌-◌, ◌≤◌, arith, ltb, List, append-nil, Bool, true, false, take, drop}
use Rattle.std.proofs.Math.Option.{Option, none, some}
use Rattle.refusal.specs.Base.{Answer, good, refused, ◌>>=◌, maybe, bytes, same}
use Rattle.item.specs.Tree.{Yaml, null, bool, int, str, seq, dict, Entries, pair, Ranged}
use Rattle.item.specs.Walk.{Gives}
use Rattle.item.specs.declared.walk.Walk.{Walk}
use Rattle.item.specs.declared.Broken.{Broken}
use Rattle.item.specs.Encode.{encode, kind_of}
use Rattle.item.specs.declared.encoded.Part.{Part}
use Rattle.scalar.specs.Scalars.{key_text}
use Rattle.entries.specs.Entries.{Stands, Holds, pair_at}
use Rattle.entries.specs.declared.Pair.{Pair}
use Rattle.entries.proofs.Standing.{stands_at}
use Rattle.entries.proofs.Walking.{no_more, first-ranged, others-ranged, Turn, Step, step, turn}
use Rattle.nodes.specs.declared.node.Node.{Node}
use Rattle.nodes.specs.declared.output.RecordWriter.{RecordWriter}
use Rattle.nodes.specs.Writing.{Writes, Opens, Closes}
use Rattle.nodes.specs.Contract.{IsNode, FoundNode, IsMapping, ReadsFound, scalar_text}
use Rattle.nodes.proofs.Writing.{writes_is, writes_more, writes_item}
use Rattle.meaning.specs.Meaning as meaning
use Rattle.meaning.specs.Record.{joined, optional, defaults_parts, defaults_item}
use Rattle.meaning.specs.Meanings.{refuse, scalar_default, defaults_from, no_defaults, defaults_of}
use Rattle.top.specs.declared.DefaultKey.{DefaultKey}
use Rattle.top.specs.declared.DefaultNodes.{DefaultNodes}
use Rattle.top.specs.declared.DefaultKey.TheVariants.{Timeout, WallBudget}
use Rattle.top.specs.Contract.{no_null, default_key, DefaultsInside, DefaultsStand, IsDefaults}

-- ---- the walk

-- what is left, read behind the two found so far, says what all of them say
pub record DefaultsRest (s : List ℕ) (to at : ℕ) (es : Entries) (timeout wall_budget : Maybe Node) : Type 0 where
  pub got : meaning.Defaults
  pub rest : Entries
  pub holds : Holds s at to rest
  pub is : defaults_from no_defaults es ≡ defaults_from got rest
  pub stands : DefaultsStand got (record { timeout = timeout; wall_budget = wall_budget })

nothing : ReadsFound scalar_text None none
unfolding maybe
nothing = record { value = none; found = refl; is = refl }

pub defaults-start : {s : List ℕ} {to at : ℕ} (es : Entries) → Holds s at to es → DefaultsRest s to at es None None
unfolding no_defaults
defaults-start es h = record { got = no_defaults; rest = es; holds = h; is = refl; stands = record { timeout = nothing; wall_budget = nothing } }

-- one entry, by which default its key is
unfoldable by_key : Maybe DefaultKey → meaning.Defaults → Yaml → Entries → Answer meaning.Defaults
by_key (Some Timeout) d v es = scalar_default v >>= λ t. defaults_from (record { timeout = t; wall_budget = d.wall_budget }) es
by_key (Some WallBudget) d v es = scalar_default v >>= λ t. defaults_from (record { timeout = d.timeout; wall_budget = t }) es
by_key None d v es = refuse 29

by_key_lem : (d : meaning.Defaults) (k : List ℕ) (v : Yaml) (es : Entries) → defaults_from d (pair k v es) ≡ by_key (default_key k) d v es
unfolding defaults_from default_key by_key
by_key_lem d k v es = go (same k (bytes "timeout")) (same k (bytes "wall_budget"))
  where
    go : (a b : Bool) → (if a then by_key (Some Timeout) d v es else if b then by_key (Some WallBudget) d v es else by_key None d v es) ≡ by_key (if a then Some Timeout else if b then Some WallBudget else None) d v es
    go true b = refl
    go false true = refl
    go false false = refl

-- what was found with one default more
abbrev timeout_with : DefaultKey → Node → Maybe Node → Maybe Node
timeout_with Timeout node timeout = Some node
timeout_with WallBudget node timeout = timeout

abbrev wall_with : DefaultKey → Node → Maybe Node → Maybe Node
wall_with Timeout node wall_budget = wall_budget
wall_with WallBudget node wall_budget = Some node

abbrev above_str : ℕ → Bool
above_str kind = ltb 3 kind

scalar-good : (v : Yaml) → false ≡ above_str (kind_of v) → scalar_default v ≡ good (key_text v)
unfolding kind_of scalar_default key_text
scalar-good null h = refl
scalar-good (bool b) h = refl
scalar-good (int z) h = refl
scalar-good (str t) h = refl
scalar-good (seq ys) h = absurd (false≢true h)
scalar-good (dict es) h = absurd (false≢true h)

scalar-bad : (v : Yaml) → true ≡ above_str (kind_of v) → scalar_default v ≡ refuse 30
unfolding kind_of scalar_default
scalar-bad null h = absurd (false≢true (sym h))
scalar-bad (bool b) h = absurd (false≢true (sym h))
scalar-bad (int z) h = absurd (false≢true (sym h))
scalar-bad (str t) h = absurd (false≢true (sym h))
scalar-bad (seq ys) h = refl
scalar-bad (dict es) h = refl

module _ {s : List ℕ} {to at : ℕ} {p : Pair} {es : Entries} {timeout wall_budget : Maybe Node} (k : DefaultsRest s to at es timeout wall_budget) (t : Turn s at to k.rest p) where
  here : {d : Maybe DefaultKey} → d ≡ default_key (take (p.end - p.start) (drop p.start s)) → defaults_from no_defaults es ≡ by_key d k.got t.entry.v t.entry.others
  here e =
      k.is
      ∙ ap (defaults_from k.got) t.entry.is
      ∙ by_key_lem k.got t.entry.k t.entry.v t.entry.others
      ∙ ap (λ (d : Maybe DefaultKey). by_key d k.got t.entry.v t.entry.others) (ap default_key (sym t.key_is) ∙ sym e)

  behind : Holds s p.next to t.entry.others
  behind = record { ranged = others-ranged t.entry k.holds.ranged; lies = t.behind }

  pub default-unknown : None ≡ default_key (take (p.end - p.start) (drop p.start s)) → defaults_from no_defaults es ≡ refused 29 0 0
  unfolding by_key
  default-unknown e = here e

  -- of a value that is read as this node, whichever default it is
  module _ {node : Node} (b : node.bytes.now ≡ s) (q : node.item.from ≡ p.end + 6) (i : IsNode t.entry.v node) (key : DefaultKey) (d : Some key ≡ default_key (take (p.end - p.start) (drop p.start s))) where
    this : ReadsFound scalar_text (Some node) (key_text t.entry.v)
    unfolding maybe
    this = record {
      value = some t.entry.v;
      found = record { value = t.entry.v; is = refl; node_is = i; whole = rw b (stands_at (omega (arith, q)) t.value) };
      is = refl;
    }

    by_kind : {c : Bool} → c ≡ above_str node.item.kind → c ≡ above_str (kind_of t.entry.v)
    by_kind e = e ∙ ap above_str i.item_is.kind_is

    pub default-bad : true ≡ above_str node.item.kind → defaults_from no_defaults es ≡ refused 30 0 0
    unfolding by_key ◌>>=◌
    default-bad h = here d ∙ go key
      where
        go : (key : DefaultKey) → by_key (Some key) k.got t.entry.v t.entry.others ≡ refused 30 0 0
        go Timeout = rw (scalar-bad t.entry.v (by_kind h))
        go WallBudget = rw (scalar-bad t.entry.v (by_kind h))

    pub default-on : false ≡ above_str node.item.kind → DefaultsRest s to p.next es (timeout_with key node timeout) (wall_with key node wall_budget)
    unfolding by_key ◌>>=◌
    default-on h = go key (here d)
      where
        go : (key : DefaultKey) → defaults_from no_defaults es ≡ by_key (Some key) k.got t.entry.v t.entry.others → DefaultsRest s to p.next es (timeout_with key node timeout) (wall_with key node wall_budget)
        go Timeout e = record {
          got = record { timeout = key_text t.entry.v; wall_budget = k.got.wall_budget };
          rest = t.entry.others;
          holds = behind;
          is = e ∙ rw (scalar-good t.entry.v (by_kind h));
          stands = record { timeout = this; wall_budget = k.stands.wall_budget };
        }
        go WallBudget e = record {
          got = record { timeout = k.got.timeout; wall_budget = key_text t.entry.v };
          rest = t.entry.others;
          holds = behind;
          is = e ∙ rw (scalar-good t.entry.v (by_kind h));
          stands = record { timeout = k.stands.timeout; wall_budget = this };
        }

-- ---- a turn of the walk

-- what is known in the loop: the two found so far stand in the bytes, and whatever entries stand there, what is left of them
abbrev pub Walked : List ℕ → ℕ → ℕ → Walk Pair → DefaultNodes → Type 0
Walked s from to walk f = (walk.bytes.now ≡ s) × (walk.to ≡ to) × DefaultsInside s f × ((es : Entries) → Holds s from to es → DefaultsRest s to walk.at es f.timeout f.wall_budget)

-- an entry whose key is a default, and its value as it is read
module _ {all whole : Bor (List ℕ)} {from to : ℕ} {f : DefaultNodes} (old new : Walk Pair) (w : length all.now ≤ 2 ^ 20) (i : Walked all.now from to old f)
    {given : Result Pair Broken} {p : Pair} (gives : Gives pair_at (λ (q : Pair). q.next) old (Some given) new) (is : given ≡ Ok p)
    (e : whole ≡ all) {read : Maybe Node} {node : Node} (there : read ≡ Some node) (bytes : IfSome read (λ (n : Node). n.bytes ≡ whole)) (place : IfSome read (λ (n : Node). n.item.from ≡ p.end + 6))
    (value : (y : Yaml) → Ranged y → Stands whole.now p.end (encode y) → IsSomeAnd read (IsNode y))
    (key : DefaultKey) (d : Some key ≡ default_key (take (p.end - p.start) (drop p.start all.now))) where
  now : Step all.now old.at to p new
  now = step old new i.0 i.1 gives is

  inside : node.bytes.now ≡ all.now
  inside = ap (λ (b : Bor (List ℕ)). b.now) (rw there at bytes ∙ e)

  is-node : {y : Yaml} → Ranged y → Stands all.now p.end (encode y) → IsNode y node
  is-node {y} g st = rw there at (value y g (rw e st))

  pub default-refused : true ≡ above_str node.item.kind → (es : Entries) → Holds all.now from to es → defaults_from no_defaults es ≡ refused 30 0 0
  default-refused h es holds =
      let k = i.3 es holds in
      let t = turn k.rest w now.before now.is k.holds.lies in
      default-bad k t inside (rw there at place) (is-node (first-ranged t.entry k.holds.ranged) t.value) key d h

  pub default-turned : {g : DefaultNodes} → false ≡ above_str node.item.kind → g ≡ record { timeout = timeout_with key node f.timeout; wall_budget = wall_with key node f.wall_budget } → Walked all.now from to new g
  default-turned h after = rw after (
    now.bytes,
    now.end,
    go key,
    λ es holds.
        let k = i.3 es holds in
        let t = turn k.rest w now.before now.is k.holds.lies in
        rw now.next (default-on k t inside (rw there at place) (is-node (first-ranged t.entry k.holds.ranged) t.value) key d h),
  )
    where
      go : (key : DefaultKey) → DefaultsInside all.now (record { timeout = timeout_with key node f.timeout; wall_budget = wall_with key node f.wall_budget })
      go Timeout = record { timeout = inside; wall_budget = i.2.wall_budget }
      go WallBudget = record { timeout = i.2.timeout; wall_budget = inside }

pub defaults-done : {s : List ℕ} {to at : ℕ} {es : Entries} {timeout wall_budget : Maybe Node} → DefaultsRest s to at es timeout wall_budget → to ≤ at → IsDefaults (defaults_from no_defaults es) (record { timeout = timeout; wall_budget = wall_budget })
unfolding defaults_from
defaults-done k m = record {
  read = k.got;
  is = k.is ∙ ap (defaults_from k.got) (no_more k.rest m k.holds.lies);
  stands = k.stands;
}

-- ---- by the kind of the value

defaults-no_null : (o : Option Yaml) → defaults_of o ≡ defaults_of (no_null o)
unfolding no_null kind_of defaults_of
defaults-no_null none = refl
defaults-no_null (some null) = refl
defaults-no_null (some (bool t)) = refl
defaults-no_null (some (int z)) = refl
defaults-no_null (some (str t)) = refl
defaults-no_null (some (seq ys)) = refl
defaults-no_null (some (dict es)) = refl

other-defaults : (y : Yaml) → (kind_of y ≡ 0 → ⊥) → (kind_of y ≡ 5 → ⊥) → defaults_of (some y) ≡ refuse 28
unfolding kind_of defaults_of
other-defaults null a b = absurd (a refl)
other-defaults (bool t) a b = refl
other-defaults (int z) a b = refl
other-defaults (str t) a b = refl
other-defaults (seq ys) a b = refl
other-defaults (dict es) a b = absurd (b refl)

module _ (o : Option Yaml) where
  pub defaults-empty : {nodes : DefaultNodes} → nodes.timeout ≡ None → nodes.wall_budget ≡ None → no_null o ≡ none → IsDefaults (defaults_of o) nodes
  unfolding no_defaults defaults_of
  defaults-empty t w e = record { read = no_defaults; is = defaults-no_null o ∙ ap defaults_of e; stands = record { timeout = rw t nothing; wall_budget = rw w nothing } }

  module _ {node : Node} (f : FoundNode (no_null o) node) where
    pub defaults-other : node.item.kind ≢ 0 → kind_of f.value ≢ 5 → defaults_of o ≡ refused 28 0 0
    defaults-other k h = defaults-no_null o ∙ ap defaults_of f.is ∙ other-defaults f.value (λ e. k (f.node_is.item_is.kind_is ∙ e)) h

    pub mapped-is : {part : Part} (m : IsMapping f.value part) → defaults_from no_defaults m.entries ≡ defaults_of o
    unfolding defaults_of
    mapped-is m = ap (λ (y : Yaml). defaults_of (some y)) (sym m.is) ∙ sym (ap defaults_of f.is) ∙ sym (defaults-no_null o)

-- ---- what is written

pub defaults-written : {a b c d e : RecordWriter} {header : ℕ} (ds : meaning.Defaults) → Opens a b header → Writes b c (encode (optional ds.timeout)) → Writes c d (encode (optional ds.wall_budget)) → Closes d e header 17
    → Writes a e (defaults_item ds)
unfolding defaults_item defaults_parts joined
defaults-written ds o p q c = writes_item o (writes_more p (writes_is (sym (append-nil _)) q)) c
