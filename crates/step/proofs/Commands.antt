-- A walk along entries: what the entries passed say of the step fields and of the command. Assumes nothing.
use Rattle.std.specs.Prelude.{Option as Maybe, Some, None, Result, Ok, if◌then◌else◌}
use Rattle.item.specs.declared.walk.Walk.{Walk}
use Rattle.item.specs.Walk.{Gives}
use Rattle.item.specs.declared.Broken.{Broken}
use Rattle.entries.specs.Entries.{pair_at}
use Rattle.std.proofs.Common.{Bor, arith, subst, ◌⊎◌, inl, inr, ◌≡◌, refl, ap, sym, ◌∙◌, ℕ, ◌-◌, ◌≤◌, List, Bool, true, false, length, take, drop, ◌^◌}
use Rattle.std.proofs.Math.Option.{some}
use Rattle.refusal.specs.Base.{refused, one_of, same, bytes}
use Rattle.item.specs.Tree.{Yaml, Entries, done, pair, get}
use Rattle.item.specs.declared.Found.{Found}
use Rattle.item.specs.declared.encoded.Part.{Part}
use Rattle.item.specs.declared.Found.TheVariants as found
use Rattle.entries.specs.Entries.{Holds, Finds, FoundAt}
use Rattle.entries.specs.declared.Pair.{Pair}
use Rattle.entries.proofs.Walking.{step, turn, no_more, first-ranged, others-ranged, Turn}
use Rattle.meaning.specs.Meaning.{step_fields}
use Rattle.meaning.specs.Fields.{step_field}
use Rattle.meaning.specs.Meanings.{commands, command_of}
use Rattle.step.specs.declared.Command.{Command}
use Rattle.step.specs.declared.Command.TheVariants.{Nothing, One, More}
use Rattle.meaning.specs.declared.StepField.{StepField}
use Rattle.meaning.specs.declared.StepField.TheVariants.{Name, Id, Timeout, Continues, Expect}
use Rattle.step.specs.Contract.{EntryAt, OneCommand, AgreesCommand, field_with, command_with}
use Rattle.item.proofs.Same.{same-eq}

-- what was found so far
pub record Places : Type 0 where
  pub name : Found
  pub id : Found
  pub timeout : Found
  pub continues : Found
  pub expect : Found
  pub command : Command

-- with one entry more, which may be the one that counts
abbrev field_if : Found → Bool → ℕ → Found
field_if field true value = field_with field value
field_if field false value = field

abbrev command_if : Command → Bool → ℕ → ℕ → Command
command_if command true key value = command
command_if command false key value = command_with command key value

-- that with one entry more, whose key is `k`
abbrev places_with : Places → List ℕ → ℕ → ℕ → Places
places_with f k key value = record {
  name = field_if f.name (same k (bytes "name")) value;
  id = field_if f.id (same k (bytes "id")) value;
  timeout = field_if f.timeout (same k (bytes "timeout")) value;
  continues = field_if f.continues (same k (bytes "continue_on_error")) value;
  expect = field_if f.expect (same k (bytes "expect")) value;
  command = command_if f.command (one_of k step_fields) key value;
}

-- the same by the field that the key is
abbrev pub places_by : Places → Maybe StepField → ℕ → ℕ → Places
places_by f (Some Name) key value = record { name = field_with f.name value; id = f.id; timeout = f.timeout; continues = f.continues; expect = f.expect; command = f.command }
places_by f (Some Id) key value = record { name = f.name; id = field_with f.id value; timeout = f.timeout; continues = f.continues; expect = f.expect; command = f.command }
places_by f (Some Timeout) key value = record { name = f.name; id = f.id; timeout = field_with f.timeout value; continues = f.continues; expect = f.expect; command = f.command }
places_by f (Some Continues) key value = record { name = f.name; id = f.id; timeout = f.timeout; continues = field_with f.continues value; expect = f.expect; command = f.command }
places_by f (Some Expect) key value = record { name = f.name; id = f.id; timeout = f.timeout; continues = f.continues; expect = field_with f.expect value; command = f.command }
places_by f None key value = record { name = f.name; id = f.id; timeout = f.timeout; continues = f.continues; expect = f.expect; command = command_with f.command key value }

-- no two words are the same, so that the first test that holds is the only one
places-are : (f : Places) (k : List ℕ) (key value : ℕ) → places_with f k key value ≡ places_by f (step_field k) key value
unfolding step_field one_of step_fields same bytes
places-are f k key value = go _ refl _ refl _ refl _ refl _ refl
  where
    word : (w : List ℕ) → same k w ≡ true → places_with f w key value ≡ places_by f (step_field w) key value → places_with f k key value ≡ places_by f (step_field k) key value
    word w t e = subst (λ (k : List ℕ). places_with f k key value ≡ places_by f (step_field k) key value) (sym (same-eq k w t)) e

    go : (a : Bool) → same k (bytes "name") ≡ a → (b : Bool) → same k (bytes "id") ≡ b → (c : Bool) → same k (bytes "timeout") ≡ c
        → (d : Bool) → same k (bytes "continue_on_error") ≡ d → (e : Bool) → same k (bytes "expect") ≡ e → places_with f k key value ≡ places_by f (step_field k) key value
    go true t b u c v d w e x = word _ t refl
    go false t true u c v d w e x = word _ u refl
    go false t false u true v d w e x = word _ v refl
    go false t false u false v true w e x = word _ w refl
    go false t false u false v false w true x = word _ x refl
    go false t false u false v false w false x = rw (t, u, v, w, x) refl

-- ---- what is known where the entries `rest` are left of `es`

abbrev FieldLeft : List ℕ → List ℕ → Entries → Entries → Found → Type 0
FieldLeft s k es rest (found.At p) = FoundAt s (get k es) p
FieldLeft s k es rest found.Nothing = get k es ≡ get k rest

-- one command is passed
pub record Passed (s : List ℕ) (es rest : Entries) (key value : ℕ) : Type 0 where
  pub k : List ℕ
  pub v : Yaml
  pub is : commands es ≡ pair k v (commands rest)
  pub entry : EntryAt s key value k v

abbrev CommandLeft : List ℕ → Entries → Entries → Command → Type 0
CommandLeft s es rest Nothing = commands es ≡ commands rest
CommandLeft s es rest (One key value) = Passed s es rest key value
CommandLeft s es rest More = (n : ℕ) → command_of n (commands es) ≡ refused 34 0 n

pub record Left (s : List ℕ) (to at : ℕ) (es : Entries) (f : Places) : Type 0 where
  pub rest : Entries
  pub holds : Holds s at to rest
  pub name : FieldLeft s (bytes "name") es rest f.name
  pub id : FieldLeft s (bytes "id") es rest f.id
  pub timeout : FieldLeft s (bytes "timeout") es rest f.timeout
  pub continue : FieldLeft s (bytes "continue_on_error") es rest f.continues
  pub expect : FieldLeft s (bytes "expect") es rest f.expect
  pub command : CommandLeft s es rest f.command

-- ---- at the end

field_end : (s k : List ℕ) (es rest : Entries) (o : Found) → rest ≡ done → FieldLeft s k es rest o → Finds s (get k es) o
unfolding get
field_end s k es rest (found.At p) e l = l
field_end s k es rest found.Nothing e l = l ∙ ap (get k) e

-- the command by its places
abbrev pub AgreesFound : List ℕ → Entries → Command → Type 0
AgreesFound s cs (One key value) = OneCommand s cs key value
AgreesFound s cs Nothing = (n : ℕ) → command_of n cs ≡ refused 34 0 n
AgreesFound s cs More = (n : ℕ) → command_of n cs ≡ refused 34 0 n

pub not-one : (s : List ℕ) (cs : Entries) (c : Command) → ((key value : ℕ) → c ≡ One key value → ⊥) → AgreesFound s cs c → (n : ℕ) → command_of n cs ≡ refused 34 0 n
not-one s cs Nothing o a = a
not-one s cs (One key value) o a = absurd (o key value refl)
not-one s cs More o a = a

pub one_more : (c : Command) (key value : ℕ) → (c ≡ Nothing → ⊥) → More ≡ command_with c key value
one_more Nothing key value o = absurd (o refl)
one_more (One k v) key value o = refl
one_more More key value o = refl

command-end : (s : List ℕ) (es rest : Entries) (c : Command) → rest ≡ done → CommandLeft s es rest c → AgreesFound s (commands es) c
unfolding command_of commands
command-end s es rest Nothing e l = λ n. rw (l ∙ ap commands e)
command-end s es rest (One key value) e l = record { k = l.k; v = l.v; is = λ n. rw (l.is ∙ ap (λ (r : Entries). pair l.k l.v (commands r)) e); entry = l.entry }
command-end s es rest More e l = l

-- where all stands
pub record Ended (s : List ℕ) (es : Entries) (f : Places) : Type 0 where
  pub name : Finds s (get (bytes "name") es) f.name
  pub id : Finds s (get (bytes "id") es) f.id
  pub timeout : Finds s (get (bytes "timeout") es) f.timeout
  pub continue : Finds s (get (bytes "continue_on_error") es) f.continues
  pub expect : Finds s (get (bytes "expect") es) f.expect
  pub command : AgreesFound s (commands es) f.command

pub walk_end : {s : List ℕ} {to at : ℕ} {es : Entries} {f : Places} → Left s to at es f → to ≤ at → Ended s es f
walk_end {s} {es = es} {f = f} l m =
    let e = no_more l.rest m l.holds.lies in
    record {
      name = field_end s _ es l.rest f.name e l.name;
      id = field_end s _ es l.rest f.id e l.id;
      timeout = field_end s _ es l.rest f.timeout e l.timeout;
      continue = field_end s _ es l.rest f.continues e l.continue;
      expect = field_end s _ es l.rest f.expect e l.expect;
      command = command-end s es l.rest f.command e l.command;
    }

-- ---- one entry more

module _ {s : List ℕ} {to at : ℕ} {p : Pair} (es : Entries) {rest : Entries} (h : Holds s at to rest) (t : Turn s at to rest p) where
  field-on : (k : List ℕ) (o : Found) → FieldLeft s k es rest o → FieldLeft s k es t.entry.others (field_if o (same (take (p.end - p.start) (drop p.start s)) k) p.end)
  unfolding get
  field-on k (found.At q) l = go (same (take (p.end - p.start) (drop p.start s)) k)
    where
      go : (b : Bool) → FieldLeft s k es t.entry.others (field_if (found.At q) b p.end)
      go true = l
      go false = l
  field-on k found.Nothing l = go (same (take (p.end - p.start) (drop p.start s)) k) refl
    where
      here : {b : Bool} → same (take (p.end - p.start) (drop p.start s)) k ≡ b → get k es ≡ (if b then some t.entry.v else get k t.entry.others)
      here e = l ∙ ap (get k) t.entry.is ∙ rw (ap (λ (w : List ℕ). same w k) (sym t.key_is) ∙ e)

      go : (b : Bool) → same (take (p.end - p.start) (drop p.start s)) k ≡ b → FieldLeft s k es t.entry.others (field_if found.Nothing b p.end)
      go true e = record { value = t.entry.v; is = here e; ranged = first-ranged t.entry h.ranged; stands = t.value }
      go false e = here e

  command-on : p.start ≤ p.end → (c : Command) → CommandLeft s es rest c → CommandLeft s es t.entry.others (command_if c (one_of (take (p.end - p.start) (drop p.start s)) step_fields) p.start p.end)
  unfolding commands command_of
  command-on o c l = go c (one_of (take (p.end - p.start) (drop p.start s)) step_fields) refl l
    where
      here : {b : Bool} → one_of (take (p.end - p.start) (drop p.start s)) step_fields ≡ b → commands rest ≡ (if b then commands t.entry.others else pair t.entry.k t.entry.v (commands t.entry.others))
      here e = ap commands t.entry.is ∙ rw (ap (λ (w : List ℕ). one_of w step_fields) (sym t.key_is) ∙ e)

      entry : EntryAt s p.start p.end t.entry.k t.entry.v
      entry = record { order = o; key = t.key_is; ranged = first-ranged t.entry h.ranged; value = t.value }

      go : (c : Command) (b : Bool) → one_of (take (p.end - p.start) (drop p.start s)) step_fields ≡ b → CommandLeft s es rest c → CommandLeft s es t.entry.others (command_if c b p.start p.end)
      go Nothing true e l = l ∙ here e
      go (One key value) true e l = record { k = l.k; v = l.v; is = l.is ∙ ap (pair l.k l.v) (here e); entry = l.entry }
      go More true e l = l
      go Nothing false e l = record { k = t.entry.k; v = t.entry.v; is = l ∙ here e; entry = entry }
      go (One key value) false e l = λ n. rw (l.is ∙ ap (pair l.k l.v) (here e))
      go More false e l = l

pub walk-on : {s : List ℕ} {to at : ℕ} {p : Pair} {es : Entries} {f : Places} (l : Left s to at es f) (t : Turn s at to l.rest p) → p.start ≤ p.end
    → {r : Maybe StepField} → r ≡ step_field (take (p.end - p.start) (drop p.start s)) → Left s to p.next es (places_by f r p.start p.end)
walk-on {s} {to} {p = p} {es = es} {f = f} l t o e = rw (e, ← places-are f (take (p.end - p.start) (drop p.start s)) p.start p.end) (record {
  rest = t.entry.others;
  holds = record { ranged = others-ranged t.entry l.holds.ranged; lies = t.behind };
  name = field-on es l.holds t (bytes "name") f.name l.name;
  id = field-on es l.holds t (bytes "id") f.id l.id;
  timeout = field-on es l.holds t (bytes "timeout") f.timeout l.timeout;
  continue = field-on es l.holds t (bytes "continue_on_error") f.continues l.continue;
  expect = field-on es l.holds t (bytes "expect") f.expect l.expect;
  command = command-on es l.holds t o f.command l.command;
})

-- what is known in the loop: of whatever entries stand there
abbrev pub Walked : List ℕ → ℕ → ℕ → Walk Pair → Places → Type 0
Walked s from to walk f = (walk.bytes.now ≡ s) × (walk.to ≡ to) × ((es : Entries) → Holds s from to es → Left s to walk.at es f)

pub turned : (old new : Walk Pair) {s : List ℕ} {from to : ℕ} {f g : Places} {given : Result Pair Broken} {p : Pair} {r : Maybe StepField} → length s ≤ 2 ^ 20 → Walked s from to old f → Gives pair_at (λ (q : Pair). q.next) old (Some given) new → given ≡ Ok p
    → r ≡ step_field (take (p.end - p.start) (drop p.start s)) → g ≡ places_by f r p.start p.end → Walked s from to new g
turned old new w i gives e key after =
    let t = step old new i.0 i.1 gives e in (
      t.bytes,
      t.end,
      λ es h.
          let l = i.2 es h in
          rw (t.next, after) (walk-on l (turn l.rest w t.before t.is l.holds.lies) t.places.key key),
    )

-- ---- how many commands

-- the part of the one command's key
pub command_part : {whole all : Bor (List ℕ)} (part : Part) {key value : ℕ} (cs : Entries) → all ≡ whole → part.bytes ≡ all → (key ≤ value → value ≤ length all.now → (part.from ≡ key) × (part.to ≡ value))
    → OneCommand whole.now cs key value → AgreesCommand cs (Some part)
command_part part cs b p places o =
    let q = places o.entry.order (rw b (omega (arith, o.entry.value.within))) in
    rw (p, b, q.0, q.1) o

pub no-command : (s : List ℕ) (cs : Entries) {c : Command} → AgreesFound s cs c → (c ≡ Nothing) ⊎ (c ≡ More) → AgreesCommand cs None
no-command s cs a (inl e) = subst (AgreesFound s cs) e a
no-command s cs a (inr e) = subst (AgreesFound s cs) e a
