-- Where the loops over lines stand, what each of their turns comes to, and what closes a collection. Assumes nothing.
use Rattle.std.proofs.Common.{◌≡◌, refl, sym, ap, ◌∙◌, subst, ℕ, zero, suc, ◌+◌, ◌-◌, ◌≤◌, ◌<◌, arith, List, [], ◌∷◌, ◌++◌, append_assoc, Bool, true, false, ◌&&◌, length, take, drop, length-append, length-drop, drop_at, take_at, take_all, length-take-le, Ok, Err}
use Rattle.std.proofs.Math.Option.{none, some}
use Rattle.std.proofs.lemmas.Bool.{and_parts}
use Rattle.std.proofs.lemmas.List.Edits.{sets-eq}
use Rattle.refusal.specs.Base.{good, refused, ◌>>=◌, ◌>>◌, ensure, maybe}
use Rattle.refusal.specs.Told.{refusal}
use Rattle.refusal.specs.declared.Refusal.{Refusal}
use Rattle.refusal.specs.declared.Refusal.TheVariants.{KeyTwice, WorkTooShort}
use Rattle.utf8.specs.White.{trim_start}
use Rattle.item.specs.Tree.{Yaml, seq, dict, Items, end, ◌◂◌, Entries, done, pair, add, has_key}
use Rattle.item.specs.Encode.{head, item, encode}
use Rattle.item.proofs.Size.{head-length}
use Rattle.writer.specs.declared.Writer.{Writer}
use Rattle.writer.specs.Writing.{cap_of, room_of, Appends, Begins, Fills, CutsBack}
use Rattle.writer.proofs.Laws.{appends_none, appends_more, filled, len_appended, keeps_appended, keeps_begun, keeps_same, keeps_more, keeps_cut}
use Rattle.entries.specs.Entries.{Lies}
use Rattle.lines.specs.Lines.{Line}
use Rattle.scalar.specs.Contract.{Refuses}
use Rattle.flow.specs.Flow.{fresh}
use Rattle.entries.proofs.Twice.{add-bytes}
use Rattle.flow.proofs.Invariants.{lies-kept, lies-stored, snoc-bytes}
use Rattle.literal.specs.Literal.{Read}
use Rattle.literal.specs.Contract.{WroteBlock}
use Rattle.block.specs.Block.{Inside, key_at, entry_at, map_turn, map_lines, entries_of, block_map, inline_map, item_behind, seq_turn, seq_lines, items_of, block_seq, within}
use Rattle.block.specs.Contract.{key_here, dash_here, WroteEntry, Judged, Ran}
use Rattle.block.proofs.Cases.{charged, uncharged, entries-as}
use Rattle.block.proofs.Judging.{judged-none, judged-as, judged-add}

-- ---- an entry behind others, as the search for its key finds them

-- the bytes that are used, once some more are put
pub used_appended : {a b : Writer} {x : List ℕ} → Appends a b x → take b.used b.out.now ≡ take a.used a.out.now ++ x
used_appended {a} {b} {x} p =
    let f : a.used + length x ≤ length a.out.now = omega (arith, p.used, b.within, len_appended p) in
    let n : length (take a.used a.out.now ++ x) ≡ b.used = omega (arith, p.used, length-append (take a.used a.out.now) x, length-take-le a.used a.out.now a.within) in
    rw (p.out, sets-eq x a.out.now a.used f)
    (take_at (take a.used a.out.now ++ x) (drop (a.used + length x) a.out.now) b.used n)

-- behind `before` bytes stand `front` and the entry of `key` and `tree`; it begins at `p`
module _ (s before front key tree : List ℕ) (from p e : ℕ) (b : s ≡ before ++ (front ++ (item 3 key ++ tree)))
    (n : length before ≡ from) (u : p ≡ from + length front) (k : e ≡ p + 6 + length key) where
  pub before-is : take (p - from) (drop from s) ≡ front
  before-is = ap (take (p - from)) (ap (drop from) b ∙ drop_at before (front ++ (item 3 key ++ tree)) from n) ∙ take_at front (item 3 key ++ tree) (p - from) (omega arith)

  pub key-is : take (e - (p + 6)) (drop (p + 6) s) ≡ key
  unfolding item
  key-is =
      let hd : List ℕ = head 3 (length key) in
      let m : length (before ++ (front ++ hd)) ≡ p + 6 = rw (length-append, length-append, head-length 3 (length key)) (omega arith) in
      let r : before ++ (front ++ ((hd ++ key) ++ tree)) ≡ (before ++ (front ++ hd)) ++ (key ++ tree) = simp append_assoc in
      ap (take (e - (p + 6))) (ap (drop (p + 6)) (b ∙ r) ∙ drop_at (before ++ (front ++ hd)) (key ++ tree) (p + 6) m)
      ∙ take_at key tree (e - (p + 6)) (omega arith)

-- ---- the entries of a mapping

-- all of them, behind what a writer has
abbrev pub whole : List Line → ℕ → ℕ → ℕ → Writer → Read Entries
whole ls first indent levels w = entries_of (cap_of w) (within (cap_of w) levels) indent w.used (drop first ls)

-- the entries so far, from whose end the definition goes on as from the start unless a key stands twice among them; `turns` are left
pub record Mapped (ls : List Line) (first indent levels : ℕ) (exact : Bool) (old now : Writer) (i : ℕ) : Type 0 where
  pub got : Entries
  pub turns : ℕ
  pub enough : length (drop i ls) ≤ turns
  pub judged : Judged (whole ls first indent levels old) (map_lines (cap_of old) (within (cap_of old) levels) indent turns got now.used (drop i ls)) exact got
  pub appends : Appends old now (encode got)
  pub on : first ≤ i
  pub within' : i ≤ length ls

pub mapped-start : (ls : List Line) (first indent levels : ℕ) (exact : Bool) (old : Writer) → first ≤ length ls → Mapped ls first indent levels exact old old first
unfolding entries_of encode
mapped-start ls first indent levels exact old h =
    record { got = done; turns = length (drop first ls); enough = omega arith; judged = judged-none; appends = appends_none old; on = omega arith; within' = h }

module _ {ls : List Line} {first indent levels : ℕ} {exact : Bool} {old out : Writer} {i : ℕ} (v : Mapped ls first indent levels exact old out i) where
  abbrev cap : ℕ
  cap = cap_of old

  abbrev p : ℕ
  p = out.used

  abbrev inside : Inside
  inside = within cap levels

  abbrev answer : Read Entries
  answer = whole ls first indent levels old

  pub out-long : cap_of out ≡ cap
  out-long = len_appended v.appends

  closes : (turns : ℕ) (rest : List Line) → key_here indent rest ≡ none → map_lines cap inside indent turns v.got p rest ≡ good (v.got, p, rest)
  unfolding map_lines map_turn key_here maybe
  closes zero rest k = refl
  closes (suc t) [] k = refl
  closes (suc t) (l ∷ rest) k = rw k

  got-lies : Lies out.out.now old.used p v.got
  got-lies = subst (λ (l : List ℕ). Lies l old.used p v.got) (sym v.appends.out) (lies-stored old.out.now old.used p v.got v.appends.used (omega (arith, out.within, out-long)))

  pub mapped_end : key_here indent (drop i ls) ≡ none → Ran answer ls first exact old out (Ok i)
  mapped_end k =
      record {
        got = v.got;
        told = good (v.got, p, drop i ls);
        judged = judged-as v.judged (closes v.turns (drop i ls) k);
        agrees = record { tree = v.got; is = refl; appends = v.appends; on = v.on; within = v.within' };
      }

  pub mapped_all : key_here indent (drop i ls) ≡ none → (run : Ran answer ls first exact old out (Ok i)) × Lies out.out.now old.used out.used run.got
  unfolding mapped_end
  mapped_all k = (mapped_end k, got-lies)

  module _ (l : Line) (rest : List Line) (e : drop i ls ≡ l ∷ rest) (split : ℕ) (k : key_here indent (drop i ls) ≡ some split) where
    abbrev entry : Read (List ℕ × Yaml)
    entry = entry_at cap inside l.number indent l.text split p rest

    turn : (turns : ℕ) → length (drop i ls) ≤ turns → map_lines cap inside indent turns v.got p (drop i ls)
        ≡ (entry >>= λ x. fresh cap l.number x.0.0 v.got >> map_lines cap inside indent (turns - 1) (add v.got x.0.0 x.0.1) x.1 x.2)
    unfolding map_lines map_turn key_here maybe
    turn zero h = absurd (omega (arith, ap length e))
    turn (suc t) h =
        let n : suc t - 1 ≡ t = omega arith in
        let m : key_at indent l ≡ some split = ap (key_here indent) (sym e) ∙ k in
        rw (e, m, n)

    pub map-stops : (new : Writer) (z : Refusal) → Refuses entry out new z → Ran answer ls first exact old new (Err z)
    unfolding ◌>>=◌
    map-stops new z r =
        record {
          got = v.got;
          told = refusal z;
          judged = judged-as v.judged (turn v.turns v.enough ∙ rw r.is);
          agrees = record { is = refl; keeps = keeps_more (keeps_appended v.appends) r.keeps };
        }

    -- an entry that is refused is taken back
    pub map-cut : (mid new : Writer) (z : Refusal) → Refuses entry out mid z → CutsBack mid new p → (run : Ran answer ls first exact old new (Err z)) × Lies new.out.now old.used new.used run.got
    unfolding map-stops
    map-cut mid new z r b =
        let c = keeps_cut r.keeps b in
        let q : Lies new.out.now old.used p v.got = lies-kept out.out.now new.out.now old.used p v.got c.kept (omega (arith, new.within, b.used)) got-lies in
        (map-stops new z (record { is = r.is; keeps = c }), subst (λ (u : ℕ). Lies new.out.now old.used u v.got) (sym b.used) q)

    module _ (new : Writer) (j c : ℕ) (w : WroteEntry entry ls (i + 1) out new j c) where
      new_is : Appends old new (encode v.got ++ (item 3 w.key ++ encode w.tree))
      new_is = appends_more v.appends w.appends

      abbrev bytes : List ℕ
      bytes = take new.used new.out.now

      front-long : length (take old.used old.out.now) ≡ old.used
      front-long = length-take-le old.used old.out.now old.within

      on-turn : Judged answer (fresh cap l.number w.key v.got >> map_lines cap inside indent (v.turns - 1) (add v.got w.key w.tree) new.used (drop j ls)) exact v.got
      unfolding ◌>>=◌
      on-turn = judged-as v.judged (turn v.turns v.enough ∙ rw w.is)

      -- what the search for the key among the entries before tells, if there is one
      module _ (found : Bool) (s : (es : Entries) → take (p - old.used) (drop old.used bytes) ≡ encode es → found ≡ exact && has_key (take (c - (p + 6)) (drop (p + 6) bytes)) es) where
        found-is : found ≡ exact && has_key w.key v.got
        found-is =
            s v.got (before-is bytes _ (encode v.got) w.key (encode w.tree) old.used p c (used_appended new_is) front-long v.appends.used w.ends)
            ∙ ap (λ (b : List ℕ). exact && has_key b v.got) (key-is bytes _ (encode v.got) w.key (encode w.tree) old.used p c (used_appended new_is) front-long v.appends.used w.ends)

        pub map-twice : found ≡ true → (n : ℕ) → n ≡ l.number → Ran answer ls first exact old new (Err (KeyTwice n))
        unfolding ◌>>=◌ ◌>>◌ fresh ensure
        map-twice t n m =
            record {
              got = v.got;
              told = refused 18 n 0;
              judged = judged-as on-turn (rw ((and_parts exact (has_key w.key v.got) (sym found-is ∙ t)).1, m));
              agrees = record { is = refl; keeps = keeps_appended new_is };
            }

        pub map_on : found ≡ false → Mapped ls first indent levels exact old new j
        map_on t =
            record {
              got = add v.got w.key w.tree;
              turns = v.turns - 1;
              enough = omega (arith, v.enough, length-drop i ls, length-drop j ls, w.on, ap length e);
              judged = judged-add cap l.number w.key w.tree _ on-turn λ x. ap (λ (b : Bool). b && has_key w.key v.got) (sym x) ∙ sym found-is ∙ t;
              appends = rw (add-bytes v.got w.key w.tree) new_is;
              on = omega (arith, v.on, w.on);
              within' = w.within;
            }

-- ---- the items of a sequence

-- the items so far, from whose end the definition goes on as from the start; `turns` are left
pub record Listed (ls : List Line) (first indent levels : ℕ) (old now : Writer) (i : ℕ) : Type 0 where
  pub got : Items
  pub turns : ℕ
  pub enough : length (drop i ls) ≤ turns
  pub same : items_of (cap_of old) (within (cap_of old) levels) indent old.used (drop first ls) ≡ seq_lines (cap_of old) (within (cap_of old) levels) indent turns got now.used (drop i ls)
  pub appends : Appends old now (encode got)
  pub on : first ≤ i
  pub within' : i ≤ length ls

pub listed_start : (ls : List Line) (first indent levels : ℕ) (old : Writer) → first ≤ length ls → Listed ls first indent levels old old first
unfolding items_of encode
listed_start ls first indent levels old h =
    record { got = end; turns = length (drop first ls); enough = omega arith; same = refl; appends = appends_none old; on = omega arith; within' = h }

pub list_full : (old new : Writer) (inside : Inside) (indent : ℕ) (rest : List Line) → room_of old < 6 → new ≡ old → Refuses (block_seq (cap_of old) inside indent old.used rest) old new WorkTooShort
unfolding block_seq ◌>>=◌
list_full old new inside indent rest h e = record { is = rw (uncharged (cap_of old) old.used (omega arith)); keeps = keeps_same e }

module _ {ls : List Line} {first indent levels : ℕ} {a old : Writer} {header : ℕ} (begun : Begins a old header) {out : Writer} {i : ℕ} (v : Listed ls first indent levels old out i) where
  abbrev scap : ℕ
  scap = cap_of old

  abbrev sinside : Inside
  sinside = within scap levels

  abbrev sp : ℕ
  sp = out.used

  abbrev listed : Read Yaml
  listed = block_seq (cap_of a) (within (cap_of a) levels) indent a.used (drop first ls)

  pub sout-long : cap_of out ≡ scap
  sout-long = len_appended v.appends

  listed-is : listed ≡ (seq_lines scap sinside indent v.turns v.got sp (drop i ls) >>= λ x. good (seq x.0, x.1, x.2))
  unfolding block_seq ◌>>=◌
  listed-is = rw (← v.same, charged (cap_of a) a.used (omega (arith, old.within, begun.used, ap length begun.out)), begun.used, begun.out)

  ends : (turns : ℕ) (rest : List Line) → dash_here indent rest ≡ false → seq_lines scap sinside indent turns v.got sp rest ≡ good (v.got, sp, rest)
  unfolding seq_lines seq_turn dash_here
  ends zero rest k = refl
  ends (suc t) [] k = refl
  ends (suc t) (l ∷ rest) k = rw k

  pub list_close : dash_here indent (drop i ls) ≡ false → (new : Writer) → Fills out new header (head 4 (sp - (header + 6))) → WroteBlock listed ls first a new i
  unfolding ◌>>=◌ encode
  list_close k new f =
      record {
        tree = seq v.got;
        is = listed-is ∙ rw (ends v.turns (drop i ls) k, f.used);
        appends = filled 4 begun v.appends f;
        on = v.on;
        within = v.within';
      }

  module _ (l : Line) (rest : List Line) (e : drop i ls ≡ l ∷ rest) (k : dash_here indent (drop i ls) ≡ true) where
    abbrev one : Read Yaml
    one = item_behind scap sinside l sp (trim_start (drop 1 l.text)) rest

    sturn : (turns : ℕ) → length (drop i ls) ≤ turns → seq_lines scap sinside indent turns v.got sp (drop i ls)
        ≡ (one >>= λ x. seq_lines scap sinside indent (turns - 1) (v.got ◂ x.0) x.1 x.2)
    unfolding seq_lines seq_turn dash_here
    sturn zero h = absurd (omega (arith, ap length e))
    sturn (suc t) h =
        let n : suc t - 1 ≡ t = omega arith in
        let m : dash_here indent (l ∷ rest) ≡ true = ap (dash_here indent) (sym e) ∙ k in
        rw (e, m, n)

    pub list-stops : (new : Writer) (z : Refusal) → Refuses one out new z → Refuses listed a new z
    unfolding ◌>>=◌
    list-stops new z r =
        record {
          is = listed-is ∙ rw (sturn v.turns v.enough, r.is);
          keeps = keeps_more (keeps_begun begun) (keeps_more (keeps_appended v.appends) r.keeps);
        }

    pub list_on : (new : Writer) (j : ℕ) → WroteBlock one ls (i + 1) out new j → Listed ls first indent levels old new j
    unfolding ◌>>=◌
    list_on new j w =
        record {
          got = v.got ◂ w.tree;
          turns = v.turns - 1;
          enough = omega (arith, v.enough, length-drop i ls, length-drop j ls, w.on, ap length e);
          same = v.same ∙ sturn v.turns v.enough ∙ rw w.is;
          appends = rw (snoc-bytes v.got w.tree) (appends_more v.appends w.appends);
          on = omega (arith, v.on, w.on);
          within' = w.within;
        }

-- ---- mappings

pub map-full : (old new : Writer) (inside : Inside) (indent : ℕ) (rest : List Line) → room_of old < 6 → new ≡ old → Refuses (block_map (cap_of old) inside indent old.used rest) old new WorkTooShort
unfolding block_map ◌>>=◌
map-full old new inside indent rest h e = record { is = rw (uncharged (cap_of old) old.used (omega arith)); keeps = keeps_same e }

module _ (a b : Writer) (header : ℕ) (begun : Begins a b header) (levels indent : ℕ) (rest : List Line) where
  abbrev mapped : Read Yaml
  mapped = block_map (cap_of a) (within (cap_of a) levels) indent a.used rest

  abbrev entries : Read Entries
  entries = entries_of (cap_of b) (within (cap_of b) levels) indent b.used rest

  mapped-is : mapped ≡ (entries >>= λ x. good (dict x.0, x.1, x.2))
  unfolding block_map ◌>>=◌
  mapped-is = rw (charged (cap_of a) a.used (omega (arith, b.within, begun.used, ap length begun.out)), begun.used, begun.out)

  pub map-refused : (new : Writer) (z : Refusal) → Refuses entries b new z → Refuses mapped a new z
  unfolding ◌>>=◌
  map-refused new z r = record { is = mapped-is ∙ rw r.is; keeps = keeps_more (keeps_begun begun) r.keeps }

  pub map-close : (ls : List Line) (i : ℕ) (out new : Writer) (j : ℕ) → WroteBlock entries ls i b out j → Fills out new header (head 5 (out.used - (header + 6))) → WroteBlock mapped ls i a new j
  unfolding ◌>>=◌ encode
  map-close ls i out new j w f =
      record {
        tree = dict w.tree;
        is = mapped-is ∙ rw (w.is, f.used);
        appends = filled 5 begun w.appends f;
        on = w.on;
        within = w.within;
      }

-- ---- a mapping behind a dash

pub inline-full : (old new : Writer) (inside : Inside) (n indent : ℕ) (t : List ℕ) (split : ℕ) (rest : List Line) → room_of old < 6 → new ≡ old
    → Refuses (inline_map (cap_of old) inside n indent t split old.used rest) old new WorkTooShort
unfolding inline_map ◌>>=◌
inline-full old new inside n indent t split rest h e = record { is = rw (uncharged (cap_of old) old.used (omega arith)); keeps = keeps_same e }

module _ (a b : Writer) (header : ℕ) (begun : Begins a b header) (levels n indent : ℕ) (t : List ℕ) (split : ℕ) (rest : List Line) where
  abbrev icap : ℕ
  icap = cap_of b

  abbrev iinside : Inside
  iinside = within icap levels

  abbrev inlined : Read Yaml
  inlined = inline_map (cap_of a) (within (cap_of a) levels) n indent t split a.used rest

  abbrev ientry : Read (List ℕ × Yaml)
  ientry = entry_at icap iinside n indent t split b.used rest

  inlined-is : inlined ≡ (ientry >>= λ x. entries_of icap iinside indent x.1 x.2 >>= λ y. fresh icap n x.0.0 y.0 >> good (dict (pair x.0.0 x.0.1 y.0), y.1, y.2))
  unfolding inline_map ◌>>=◌
  inlined-is = rw (charged (cap_of a) a.used (omega (arith, b.within, begun.used, ap length begun.out)), begun.used, begun.out)

  pub inline-stops : (new : Writer) (z : Refusal) → Refuses ientry b new z → Refuses inlined a new z
  unfolding ◌>>=◌
  inline-stops new z r = record { is = inlined-is ∙ rw r.is; keeps = keeps_more (keeps_begun begun) r.keeps }

  -- `x` is the column as the code has it
  module _ (ls : List Line) (i : ℕ) (mid : Writer) (j c : ℕ) (w : WroteEntry ientry ls i b mid j c) (x : ℕ) (q : x ≡ indent) where
    abbrev later : Read Entries
    later = entries_of icap iinside indent mid.used (drop j ls)

    abbrev later-read : Read Entries
    later-read = entries_of (cap_of mid) (within (cap_of mid) levels) x mid.used (drop j ls)

    later-as : later ≡ later-read
    later-as = entries-as (cap_of mid) icap levels x indent mid.used (drop j ls) (len_appended w.appends) q

    pub inline-later : (new : Writer) (z : Refusal) → Refuses later-read mid new z → Refuses inlined a new z
    unfolding ◌>>=◌
    inline-later new z r =
        record {
          is = inlined-is ∙ rw (w.is, later-as ∙ r.is);
          keeps = keeps_more (keeps_begun begun) (keeps_more (keeps_appended w.appends) r.keeps);
        }

    module _ (out : Writer) (m : ℕ) (d : WroteBlock later-read ls j mid out m) where
      abbrev ibytes : List ℕ
      ibytes = take out.used out.out.now

      behind-is : Appends b out (item 3 w.key ++ (encode w.tree ++ encode d.tree))
      behind-is = subst (Appends b out) (append_assoc (item 3 w.key) (encode w.tree) (encode d.tree)) (appends_more w.appends d.appends)

      -- the later entries, and the first key, as the search for it finds them
      module _ (found : Bool) (s : (es : Entries) → take (out.used - mid.used) (drop mid.used ibytes) ≡ encode es → found ≡ has_key (take (c - (header + 12)) (drop (header + 12) ibytes)) es) where
        later-is : take (out.used - mid.used) (drop mid.used ibytes) ≡ encode d.tree
        later-is =
            ap (take (out.used - mid.used)) (ap (drop mid.used) (used_appended d.appends) ∙ drop_at (take mid.used mid.out.now) (encode d.tree) mid.used (length-take-le mid.used mid.out.now mid.within))
            ∙ take_all (out.used - mid.used) (encode d.tree) (omega (arith, d.appends.used))

        first-is : take (c - (header + 12)) (drop (header + 12) ibytes) ≡ w.key
        first-is =
            let z : header + 12 ≡ b.used + 6 = omega (arith, begun.at, begun.used) in
            rw z (key-is ibytes _ [] w.key (encode w.tree ++ encode d.tree) b.used b.used c (used_appended behind-is) (length-take-le b.used b.out.now b.within) (omega arith) w.ends)

        found_first : found ≡ has_key w.key d.tree
        found_first = s d.tree later-is ∙ ap (λ (k : List ℕ). has_key k d.tree) first-is

        pub inline-twice : found ≡ true → (k : ℕ) → k ≡ n → Refuses inlined a out (KeyTwice k)
        unfolding ◌>>=◌ ◌>>◌ fresh ensure
        inline-twice f k e =
            record {
              is = inlined-is ∙ rw (w.is, later-as ∙ d.is, sym found_first ∙ f, e);
              keeps = keeps_more (keeps_begun begun) (keeps_appended behind-is);
            }

        pub inline-close : found ≡ false → i ≤ j → (new : Writer) → Fills out new header (head 5 (out.used - (header + 6))) → WroteBlock inlined ls i a new m
        unfolding ◌>>=◌ ◌>>◌ fresh ensure encode
        inline-close f o new h =
            record {
              tree = dict (pair w.key w.tree d.tree);
              is = inlined-is ∙ rw (w.is, later-as ∙ d.is, sym found_first ∙ f, h.used);
              appends = filled 5 begun behind-is h;
              on = omega (arith, o, d.on);
              within = d.within;
            }
