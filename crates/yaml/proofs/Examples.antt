-- Texts that the grammar has and that document 01 keeps, with their trees; and texts that the grammar does not have. The terms of the first
-- are written by compare/grammar. Assumes nothing.
use Rattle.std.proofs.Common.{◌≡◌, refl, ℕ, arith, List, [], ◌∷◌, Bool, true, false, not, T, take, drop, pos, negsuc}
use Rattle.std.proofs.lemmas.Bool.{false≢true}
use Rattle.std.proofs.Math.Option.{Option, some, none}
use Rattle.refusal.specs.Base.{bytes}
use Rattle.refusal.proofs.Open.{Base-open}
use Rattle.utf8.proofs.Open.{Utf8-open, Points-open}
use Rattle.item.specs.Tree as Tree
use Rattle.yaml.specs.Scalars.{flow_out, flow_in, d_end, d_char, d_escaped, esc_n, s_end, s_char, s_twice}
use Rattle.yaml.specs.Represent.{Rep, null, bool, int, float, str, seq, map, end, ◌▸◌, done, pair, tree_of}
use Rattle.yaml.specs.Core.{Core, to_null, to_true, to_false, to_decimal, to_octal, to_hex, to_float, to_str, matches, signed, prefixed, null_text, true_text, false_text, decimal_text, octal_text, hex_text, float_text, json_decimal_text, ◌∣◌}
use Rattle.yaml.proofs.Open.{Core-open}
use Rattle.yaml.specs.Flow.{f_plain, f_quoted, f_seq, f_map, q_double, q_single, s_last, s_more, p_adjacent, p_null}
use Rattle.yaml.specs.Flow as F
use Rattle.yaml.specs.Rows.{Row, node, note, body, blank, lf, crlf, eof, c_end, c_more}
use Rattle.yaml.specs.Block.{strip, clip, l_none, l_empty, l_text, l_last, l_next, t_none, t_blank, t_comment, l_lines, l_nothing, key, b_flow, b_seq, b_map, i_last, i_more, i_flow, i_null, i_block, i_map, e_flow, e_null, e_block, e_literal, Document, d_none, d_one, Stream}
use Rattle.yaml.specs.Block as B
use Rattle.yaml.specs.Kept.{Kept}
use Rattle.yaml.proofs.Plains.{is_plain_lem, All-open}

-- ---- document 01, the text of the program drumread

drum_text : List ℕ
drum_text = (bytes "schema: passportsim/scenario@1\nname: noon\nsteps:\n  - strike: 5")

drum_rows : List Row
drum_rows = (node 0 (bytes "schema: passportsim/scenario@1") [] lf) ∷ (node 0 (bytes "name: noon") [] lf) ∷ (node 0 (bytes "steps:") [] lf) ∷ (node 2
    (bytes "- strike: 5") [] eof) ∷ []

-- so many of them from a place on
drum_from : ℕ → ℕ → List Row
drum_from a n = take n (drop a drum_rows)

abbrev drum_means : Option Rep
drum_means = some (map (pair (str (bytes "schema")) (str (bytes "passportsim/scenario@1")) (pair (str (bytes "name")) (str (bytes "noon")) (pair (str
    (bytes "steps")) (seq ((map (pair (str (bytes "strike")) (int (pos 5)) done)) ▸ end)) done))))

drum-is : Document drum_rows drum_means
unfolding drum_rows drum_from All-open
drum-is = (d_one {cs = []} {xs = (drum_from 0 4)} {m = 0} c_end (b_map (B.m_more {xs = (drum_from 0 1)} {ys = (drum_from 1 3)} (e_flow [] (key []
    (f_plain (is_plain_lem flow_out (bytes "schema") tt) (to_str tt)) tt refl tt) tt (f_plain (is_plain_lem flow_out (bytes "passportsim/scenario@1") tt)
    (to_str tt)) tt c_end refl) (B.m_more {xs = (drum_from 1 1)} {ys = (drum_from 2 2)} (e_flow [] (key [] (f_plain (is_plain_lem flow_out (bytes "name")
    tt) (to_str tt)) tt refl tt) tt (f_plain (is_plain_lem flow_out (bytes "noon") tt) (to_str tt)) tt c_end refl) (B.m_last (e_block {n = 0} {m = 2} {cs
    = []} {xs = (drum_from 3 1)} (key [] (f_plain (is_plain_lem flow_out (bytes "steps") tt) (to_str tt)) tt refl tt) tt c_end (omega arith) (b_seq
    (i_last (i_map {t = (bytes "strike: 5")} 0 refl (B.m_last (e_flow [] (key [] (f_plain (is_plain_lem flow_out (bytes "strike") tt) (to_str tt)) tt refl
    tt) tt (f_plain (is_plain_lem flow_out (bytes "5") tt) (to_decimal tt)) tt c_end refl)) refl))) refl)) refl) refl)) refl)

drum : Stream drum_text drum_means
unfolding drum_text drum_rows All-open
drum = record {
  rows = drum_rows;
  is = refl;
  ends = tt;
  bare = tt;
  printable = record { points = drum_text; is = refl; are = tt };
  document = drum-is;
}

drum-kept : Kept drum
unfolding drum drum_rows drum-is drum_from All-open
drum-kept = record {
  document = (
    (((refl, tt), refl), refl, (refl, tt)),
    (
      (((refl, tt), refl), refl, (refl, tt)),
      (
        ((refl, tt), refl),
        refl,
        (
          (
            (
              refl,
              tt,
            ),
            refl,
          ),
          refl,
          (refl, tt),
        ),
      ),
    ),
  );
  lines = (refl, (refl, (refl, (refl, tt))));
}

drum-tree : tree_of drum_means ≡ some (Tree.dict (Tree.pair (bytes "schema") (Tree.str (bytes "passportsim/scenario@1")) (Tree.pair (bytes "name")
    (Tree.str (bytes "noon")) (Tree.pair (bytes "steps") (Tree.seq (Tree.◌▸◌ (Tree.dict (Tree.pair (bytes "strike") (Tree.int (pos 5)) Tree.done))
    Tree.end)) Tree.done))))
unfolding All-open
drum-tree = refl

-- ---- comments at any depth, blank lines, a literal with an empty row and a deeper one, a quote and a `#` in plain texts

lines_text : List ℕ
lines_text = (bytes "# c\na: | # d\n  x\n\n  # no comment\n    y\n \n# e\n    # f\n\nb: it's\n'k':\n    # g\n  -\n  - a#b\n")

lines_rows : List Row
lines_rows = (note (bytes "# c") lf) ∷ (node 0 (bytes "a: |") (bytes " # d") lf) ∷ (body 2 (bytes "x") lf) ∷ (blank 0 lf) ∷ (body 2 (bytes
    "# no comment") lf) ∷ (body 2 (bytes "  y") lf) ∷ (note (bytes " ") lf) ∷ (note (bytes "# e") lf) ∷ (note (bytes "    # f") lf) ∷ (note [] lf) ∷
    (node 0 (bytes "b: it's") [] lf) ∷ (node 0 (bytes "'k':") [] lf) ∷ (note (bytes "    # g") lf) ∷ (node 2 (bytes "-") [] lf) ∷ (node 2 (bytes
    "- a#b") [] lf) ∷ []

-- so many of them from a place on
lines_from : ℕ → ℕ → List Row
lines_from a n = take n (drop a lines_rows)

abbrev lines_means : Option Rep
lines_means = some (map (pair (str (bytes "a")) (str (bytes "x\n\n# no comment\n  y\n")) (pair (str (bytes "b")) (str (bytes "it's")) (pair (str
    (bytes "k")) (seq (null ▸ ((str (bytes "a#b")) ▸ end))) done))))

lines-is : Document lines_rows lines_means
unfolding lines_rows lines_from All-open
lines-is = (d_one {cs = (lines_from 0 1)} {xs = (lines_from 1 14)} {m = 0} (c_more tt c_end) (b_map (B.m_more {xs = (lines_from 1 9)} {ys =
    (lines_from 10 5)} (e_literal {n = 0} [] clip (key [] (f_plain (is_plain_lem flow_out (bytes "a") tt) (to_str tt)) tt refl tt) tt tt (l_lines {xs =
    (lines_from 2 4)} {ys = (lines_from 6 4)} {m = 2} (omega arith) (l_next {xs = (lines_from 2 1)} {ys = (lines_from 3 3)} (l_text {bs = []} (bytes
    "x") l_none tt tt refl refl) (l_next {xs = (lines_from 3 2)} {ys = (lines_from 5 1)} (l_text {bs = (lines_from 3 1)} (bytes "# no comment")
    (l_empty {k = 0} (omega arith) l_none) tt tt refl refl) (l_last (l_text {bs = []} (bytes "  y") l_none tt tt refl refl)) refl refl) refl refl) tt
    (t_blank 1 (omega arith) (t_comment 0 (bytes " e") (omega arith) tt (c_more tt (c_more tt c_end)) refl) refl) refl refl) refl) (B.m_more {xs =
    (lines_from 10 1)} {ys = (lines_from 11 4)} (e_flow [] (key [] (f_plain (is_plain_lem flow_out (bytes "b") tt) (to_str tt)) tt refl tt) tt (f_plain
    (is_plain_lem flow_out (bytes "it's") tt) (to_str tt)) tt c_end refl) (B.m_last (e_block {n = 0} {m = 2} {cs = (lines_from 12 1)} {xs = (lines_from 13
    2)} (key [] (f_quoted (q_single {t = (bytes "k")} {v = (bytes "k")} (s_char tt s_end) refl)) tt refl tt) tt (c_more tt c_end) (omega arith) (b_seq
    (i_more {xs = (lines_from 13 1)} {ys = (lines_from 14 1)} (i_null tt c_end refl) (i_last (i_flow [] tt (f_plain (is_plain_lem flow_out (bytes "a#b")
    tt) (to_str tt)) tt c_end refl)) refl)) refl)) refl) refl)) refl)

lines : Stream lines_text lines_means
unfolding lines_text lines_rows All-open
lines = record {
  rows = lines_rows;
  is = refl;
  ends = tt;
  bare = tt;
  printable = record { points = lines_text; is = refl; are = tt };
  document =
      lines-is;
}

lines-kept : Kept lines
unfolding lines lines_rows lines-is lines_from All-open
lines-kept = record {
  document = (
    (((refl, tt), refl), refl, tt),
    (
      (((refl, tt), refl), refl, (refl, tt)),
      (
        (tt, refl),
        refl,
        (
          tt,
          (
            (refl, tt),
            refl,
          ),
        ),
      ),
    ),
  );
  lines = (
    refl,
    (
      refl,
      (
        omega arith,
        (refl, refl),
        (
          omega arith,
          (refl, refl),
          (
            omega arith,
            (refl, refl),
            (
              omega arith,
              refl,
              (refl, (refl, (refl, (refl, (refl, (refl, (refl, tt))))))),
            ),
          ),
        ),
      ),
    ),
  );
}

lines-tree : tree_of lines_means ≡ some (Tree.dict (Tree.pair (bytes "a") (Tree.str (bytes "x\n\n# no comment\n  y\n")) (Tree.pair (bytes "b")
    (Tree.str (bytes "it's")) (Tree.pair (bytes "k") (Tree.seq (Tree.◌▸◌ Tree.null (Tree.◌▸◌ (Tree.str (bytes "a#b")) Tree.end))) Tree.done))))
unfolding All-open
lines-tree = refl

-- ---- a literal under a first key and one at the end of the input, a carriage return, flow collections

compact_text : List ℕ
compact_text = (bytes "- a: |\n    x\n  b: 1\r\n\n- {\"k\":[1, 'it''s'], c: }\n-\n  \"d\\n\": |-\n    y")

compact_rows : List Row
compact_rows = (node 0 (bytes "- a: |") [] lf) ∷ (body 4 (bytes "x") lf) ∷ (node 2 (bytes "b: 1") [] crlf) ∷ (note [] lf) ∷ (node 0 (bytes
    "- {\"k\":[1, 'it''s'], c: }") [] lf) ∷ (node 0 (bytes "-") [] lf) ∷ (node 2 (bytes "\"d\\n\": |-") [] lf) ∷ (body 4 (bytes "y") eof) ∷ []

-- so many of them from a place on
compact_from : ℕ → ℕ → List Row
compact_from a n = take n (drop a compact_rows)

abbrev compact_means : Option Rep
compact_means = some (seq ((map (pair (str (bytes "a")) (str (bytes "x\n")) (pair (str (bytes "b")) (int (pos 1)) done))) ▸ ((map (pair (str (bytes
    "k")) (seq ((int (pos 1)) ▸ ((str (bytes "it's")) ▸ end))) (pair (str (bytes "c")) null done))) ▸ ((map (pair (str (bytes "d\n")) (str (bytes
    "y")) done)) ▸ end))))

compact-is : Document compact_rows compact_means
unfolding compact_rows compact_from All-open
compact-is = (d_one {cs = []} {xs = (compact_from 0 8)} {m = 0} c_end (b_seq (i_more {xs = (compact_from 0 4)} {ys = (compact_from 4 4)} (i_map {t =
    (bytes "a: |")} 0 refl (B.m_more {xs = ((node 2 (bytes "a: |") [] lf) ∷ compact_from 1 1)} {ys = (compact_from 2 2)} (e_literal {n = 2} [] clip
    (key [] (f_plain (is_plain_lem flow_out (bytes "a") tt) (to_str tt)) tt refl tt) tt tt (l_lines {xs = (compact_from 1 1)} {ys = []} {m = 4} (omega
    arith) (l_last (l_text {bs = []} (bytes "x") l_none tt tt refl refl)) tt t_none refl refl) refl) (B.m_last (e_flow [] (key [] (f_plain (is_plain_lem
    flow_out (bytes "b") tt) (to_str tt)) tt refl tt) tt (f_plain (is_plain_lem flow_out (bytes "1") tt) (to_decimal tt)) tt (c_more tt c_end) refl))
    refl) refl) (i_more {xs = (compact_from 4 1)} {ys = (compact_from 5 3)} (i_flow [] tt (f_map 0 (F.m_more 0 1 (p_adjacent 0 (f_quoted (q_double {t
    = (bytes "k")} {v = (bytes "k")} (d_char tt d_end) refl)) tt (f_seq 0 (s_more 0 1 (f_plain (is_plain_lem flow_in (bytes "1") tt) (to_decimal tt))
    (s_last 0 (f_quoted (q_single {t = (bytes "it''s")} {v = (bytes "it's")} (s_char tt (s_char tt (s_twice (s_char tt s_end)))) refl)) refl) refl)
    refl) refl) (F.m_last 1 (p_null 0 (f_plain (is_plain_lem flow_in (bytes "c") tt) (to_str tt)) refl) refl) refl) refl) tt c_end refl) (i_last (i_block
    {m = 0} {k = 2} {cs = []} {xs = (compact_from 6 2)} tt c_end (omega arith) (b_map (B.m_last (e_literal {n = 2} [] strip (key [] (f_quoted
    (q_double {t = (bytes "d\\n")} {v = (bytes "d\n")} (d_char tt (d_escaped esc_n d_end)) refl)) tt refl tt) tt tt (l_lines {xs = (compact_from 7 1)}
    {ys = []} {m = 4} (omega arith) (l_last (l_text {bs = []} (bytes "y") l_none tt tt refl refl)) tt t_none refl refl) refl))) refl)) refl) refl))
    refl)

compact : Stream compact_text compact_means
unfolding compact_text compact_rows All-open
compact = record {
  rows = compact_rows;
  is = refl;
  ends = tt;
  bare = tt;
  printable = record { points = compact_text; is = refl; are = tt };
  document =
      compact-is;
}

compact-kept : Kept compact
unfolding compact compact_rows compact-is compact_from All-open
compact-kept = record {
  document = (
    ((((refl, tt), refl), refl, tt), (((refl, tt), refl), refl, (refl, tt))),
    (
      (
        ((tt, ((refl, tt), tt)), (refl, tt)),
        refl,
      ),
      ((tt, refl), refl, tt),
    ),
  );
  lines = (
    refl,
    (
      omega arith,
      (refl, refl),
      (
        refl,
        (
          omega arith,
          refl,
          (
            refl,
            (
              refl,
              (
                omega arith,
                (refl, refl),
                tt,
              ),
            ),
          ),
        ),
      ),
    ),
  );
}

compact-tree : tree_of compact_means ≡ some (Tree.seq (Tree.◌▸◌ (Tree.dict (Tree.pair (bytes "a") (Tree.str (bytes "x\n")) (Tree.pair (bytes "b")
    (Tree.int (pos 1)) Tree.done))) (Tree.◌▸◌ (Tree.dict (Tree.pair (bytes "k") (Tree.seq (Tree.◌▸◌ (Tree.int (pos 1)) (Tree.◌▸◌ (Tree.str (bytes
    "it's")) Tree.end))) (Tree.pair (bytes "c") Tree.null Tree.done))) (Tree.◌▸◌ (Tree.dict (Tree.pair (bytes "d\n") (Tree.str (bytes "y"))
    Tree.done)) Tree.end))))
unfolding All-open
compact-tree = refl

-- ---- no value, a value on a deeper line, an empty literal, a blank line and a comment behind it

rest_text : List ℕ
rest_text = (bytes "a:\n  \"x\" # c\nb: |\n \n# d\n\"c\" :\n")

rest_rows : List Row
rest_rows = (node 0 (bytes "a:") [] lf) ∷ (node 2 (bytes "\"x\"") (bytes " # c") lf) ∷ (node 0 (bytes "b: |") [] lf) ∷ (note (bytes " ") lf) ∷ (note
    (bytes "# d") lf) ∷ (node 0 (bytes "\"c\" :") [] lf) ∷ []

-- so many of them from a place on
rest_from : ℕ → ℕ → List Row
rest_from a n = take n (drop a rest_rows)

abbrev rest_means : Option Rep
rest_means = some (map (pair (str (bytes "a")) (str (bytes "x")) (pair (str (bytes "b")) (str []) (pair (str (bytes "c")) null done))))

rest-is : Document rest_rows rest_means
unfolding rest_rows rest_from All-open
rest-is = (d_one {cs = []} {xs = (rest_from 0 6)} {m = 0} c_end (b_map (B.m_more {xs = (rest_from 0 2)} {ys = (rest_from 2 4)} (e_block {n = 0} {m =
    2} {cs = []} {xs = (rest_from 1 1)} (key [] (f_plain (is_plain_lem flow_out (bytes "a") tt) (to_str tt)) tt refl tt) tt c_end (omega arith) (b_flow
    (f_quoted (q_double {t = (bytes "x")} {v = (bytes "x")} (d_char tt d_end) refl)) tt c_end refl) refl) (B.m_more {xs = (rest_from 2 3)} {ys =
    (rest_from 5 1)} (e_literal {n = 0} [] clip (key [] (f_plain (is_plain_lem flow_out (bytes "b") tt) (to_str tt)) tt refl tt) tt tt (l_nothing 1
    (t_blank 1 (omega arith) (t_comment 0 (bytes " d") (omega arith) tt c_end refl) refl)) refl) (B.m_last (e_null (key (bytes " ") (f_quoted
    (q_double {t = (bytes "c")} {v = (bytes "c")} (d_char tt d_end) refl)) tt refl tt) tt c_end refl)) refl) refl)) refl)

rest : Stream rest_text rest_means
unfolding rest_text rest_rows All-open
rest = record {
  rows = rest_rows;
  is = refl;
  ends = tt;
  bare = tt;
  printable = record { points = rest_text; is = refl; are = tt };
  document = rest-is;
}

rest-kept : Kept rest
unfolding rest rest_rows rest-is rest_from All-open
rest-kept = record {
  document = ((((refl, tt), refl), refl, (tt, refl, refl)), ((((refl, tt), refl), refl, tt), ((tt, refl), refl)));
  lines = (
    refl,
    (refl, (refl, (omega arith, refl, (refl, tt)))),
  );
}

rest-tree : tree_of rest_means ≡ some (Tree.dict (Tree.pair (bytes "a") (Tree.str (bytes "x")) (Tree.pair (bytes "b") (Tree.str []) (Tree.pair (bytes
    "c") Tree.null Tree.done))))
unfolding All-open
rest-tree = refl

-- ---- no document

nothing_text : List ℕ
nothing_text = (bytes "# c\n")

nothing_rows : List Row
nothing_rows = (note (bytes "# c") lf) ∷ []

-- so many of them from a place on
nothing_from : ℕ → ℕ → List Row
nothing_from a n = take n (drop a nothing_rows)

abbrev nothing_means : Option Rep
nothing_means = none

nothing_is : Document nothing_rows nothing_means
unfolding nothing_rows nothing_from All-open
nothing_is = (d_none (c_more tt c_end))

nothing : Stream nothing_text nothing_means
unfolding nothing_text nothing_rows All-open
nothing = record {
  rows = nothing_rows;
  is = refl;
  ends = tt;
  bare = tt;
  printable = record { points = nothing_text; is = refl; are = tt };
  document =
      nothing_is;
}

nothing-kept : Kept nothing
unfolding nothing nothing_rows nothing_is nothing_from All-open
nothing-kept = record { document = tt; lines = (refl, tt) }

nothing-tree : tree_of nothing_means ≡ some Tree.null
unfolding All-open
nothing-tree = refl

-- ---- tabs where white space is, behind a first space or before a colon

tabs_text : List ℕ
tabs_text = (bytes "a\t: \t1\n\"b\" \t:\n  - \t\"c\"\nd: \t|-\n")

tabs_rows : List Row
tabs_rows = (node 0 (bytes "a\t: \t1") [] lf) ∷ (node 0 (bytes "\"b\" \t:") [] lf) ∷ (node 2 (bytes "- \t\"c\"") [] lf) ∷ (node 0 (bytes "d: \t|-") []
    lf) ∷ []

-- so many of them from a place on
tabs_from : ℕ → ℕ → List Row
tabs_from a n = take n (drop a tabs_rows)

abbrev tabs_means : Option Rep
tabs_means = some (map (pair (str (bytes "a")) (int (pos 1)) (pair (str (bytes "b")) (seq ((str (bytes "c")) ▸ end)) (pair (str (bytes "d")) (str [])
    done))))

tabs-is : Document tabs_rows tabs_means
unfolding tabs_rows tabs_from All-open
tabs-is = (d_one {cs = []} {xs = (tabs_from 0 4)} {m = 0} c_end (b_map (B.m_more {xs = (tabs_from 0 1)} {ys = (tabs_from 1 3)} (e_flow (bytes "\t")
    (key (bytes "\t") (f_plain (is_plain_lem flow_out (bytes "a") tt) (to_str tt)) tt refl tt) tt (f_plain (is_plain_lem flow_out (bytes "1") tt) (to_decimal
    tt)) tt c_end refl) (B.m_more {xs = (tabs_from 1 2)} {ys = (tabs_from 3 1)} (e_block {n = 0} {m = 2} {cs = []} {xs = (tabs_from 2 1)} (key (bytes
    " \t") (f_quoted (q_double {t = (bytes "b")} {v = (bytes "b")} (d_char tt d_end) refl)) tt refl tt) tt c_end (omega arith) (b_seq (i_last (i_flow
    (bytes "\t") tt (f_quoted (q_double {t = (bytes "c")} {v = (bytes "c")} (d_char tt d_end) refl)) tt c_end refl))) refl) (B.m_last (e_literal {n =
    0} (bytes "\t") strip (key [] (f_plain (is_plain_lem flow_out (bytes "d") tt) (to_str tt)) tt refl tt) tt tt (l_nothing 0 t_none) refl)) refl) refl))
    refl)

tabs : Stream tabs_text tabs_means
unfolding tabs_text tabs_rows All-open
tabs = record {
  rows = tabs_rows;
  is = refl;
  ends = tt;
  bare = tt;
  printable = record { points = tabs_text; is = refl; are = tt };
  document = tabs-is;
}

tabs-kept : Kept tabs
unfolding tabs tabs_rows tabs-is tabs_from All-open
tabs-kept = record {
  document = ((((refl, tt), refl), refl, (refl, tt)), (((tt, refl), refl, (tt, refl)), (((refl, tt), refl), refl, tt)));
  lines =
      (refl, (refl, (refl, (refl, tt))));
}

tabs-tree : tree_of tabs_means ≡ some (Tree.dict (Tree.pair (bytes "a") (Tree.int (pos 1)) (Tree.pair (bytes "b") (Tree.seq (Tree.◌▸◌ (Tree.str (bytes
    "c")) Tree.end)) (Tree.pair (bytes "d") (Tree.str []) Tree.done))))
unfolding All-open
tabs-tree = refl

-- ---- literals behind two spaces and behind a tab, one row of which ends as if it opened a literal

aligned_text : List ℕ
aligned_text = (bytes "show:  |\n  words\n   b: |\n\nname:  x\nt: \t|-\n  y\n")

aligned_rows : List Row
aligned_rows = (node 0 (bytes "show:  |") [] lf) ∷ (body 2 (bytes "words") lf) ∷ (body 2 (bytes " b: |") lf) ∷ (note [] lf) ∷ (node 0 (bytes
    "name:  x") [] lf) ∷ (node 0 (bytes "t: \t|-") [] lf) ∷ (body 2 (bytes "y") lf) ∷ []

-- so many of them from a place on
aligned_from : ℕ → ℕ → List Row
aligned_from a n = take n (drop a aligned_rows)

abbrev aligned_means : Option Rep
aligned_means = some (map (pair (str (bytes "show")) (str (bytes "words\n b: |\n")) (pair (str (bytes "name")) (str (bytes "x")) (pair (str (bytes
    "t")) (str (bytes "y")) done))))

aligned-is : Document aligned_rows aligned_means
unfolding aligned_rows aligned_from All-open
aligned-is = (d_one {cs = []} {xs = (aligned_from 0 7)} {m = 0} c_end (b_map (B.m_more {xs = (aligned_from 0 4)} {ys = (aligned_from 4 3)} (e_literal
    {n = 0} (bytes " ") clip (key [] (f_plain (is_plain_lem flow_out (bytes "show") tt) (to_str tt)) tt refl tt) tt tt (l_lines {xs = (aligned_from 1 2)}
    {ys = (aligned_from 3 1)} {m = 2} (omega arith) (l_next {xs = (aligned_from 1 1)} {ys = (aligned_from 2 1)} (l_text {bs = []} (bytes "words")
    l_none tt tt refl refl) (l_last (l_text {bs = []} (bytes " b: |") l_none tt tt refl refl)) refl refl) tt (t_blank 0 (omega arith) t_none refl)
    refl refl) refl) (B.m_more {xs = (aligned_from 4 1)} {ys = (aligned_from 5 2)} (e_flow (bytes " ") (key [] (f_plain (is_plain_lem flow_out (bytes
    "name") tt) (to_str tt)) tt refl tt) tt (f_plain (is_plain_lem flow_out (bytes "x") tt) (to_str tt)) tt c_end refl) (B.m_last (e_literal {n = 0}
    (bytes "\t") strip (key [] (f_plain (is_plain_lem flow_out (bytes "t") tt) (to_str tt)) tt refl tt) tt tt (l_lines {xs = (aligned_from 6 1)} {ys = []}
    {m = 2} (omega arith) (l_last (l_text {bs = []} (bytes "y") l_none tt tt refl refl)) tt t_none refl refl) refl)) refl) refl)) refl)

aligned : Stream aligned_text aligned_means
unfolding aligned_text aligned_rows All-open
aligned = record {
  rows = aligned_rows;
  is = refl;
  ends = tt;
  bare = tt;
  printable = record { points = aligned_text; is = refl; are = tt };
  document =
      aligned-is;
}

aligned-kept : Kept aligned
unfolding aligned aligned_rows aligned-is aligned_from All-open
aligned-kept = record {
  document = ((((refl, tt), refl), refl, tt), ((((refl, tt), refl), refl, (refl, tt)), (((refl, tt), refl), refl, tt)));
  lines =
      (refl, ((refl, refl), refl, refl, ((refl, refl), refl, refl, (omega arith, refl, (refl, ((refl, refl), refl, refl, tt))))));
}

aligned-tree : tree_of aligned_means ≡ some (Tree.dict (Tree.pair (bytes "show") (Tree.str (bytes "words\n b: |\n")) (Tree.pair (bytes "name")
    (Tree.str (bytes "x")) (Tree.pair (bytes "t") (Tree.str (bytes "y")) Tree.done))))
unfolding All-open
aligned-tree = refl

-- ---- what the grammar does not have

is_str : Rep → Bool
is_str null = false
is_str (bool b) = false
is_str (int z) = false
is_str (float t) = false
is_str (str t) = true
is_str (seq rs) = false
is_str (map ps) = false

-- a plain text that is a string matches no row of the table
no_row : {t : List ℕ} {r : Rep} → Core t r → is_str r ≡ true → T (not (matches (null_text ∣ true_text ∣ false_text ∣ decimal_text ∣ octal_text ∣ hex_text ∣ float_text) t))
unfolding is_str
no_row (to_null h) e = absurd (false≢true e)
no_row (to_true h) e = absurd (false≢true e)
no_row (to_false h) e = absurd (false≢true e)
no_row (to_decimal h) e = absurd (false≢true e)
no_row (to_octal h) e = absurd (false≢true e)
no_row (to_hex h) e = absurd (false≢true e)
no_row (to_float g h) e = absurd (false≢true e)
no_row (to_str h) e = h

-- `1.5`, `0x1F` and `~` are no strings
half : Core (bytes "1.5") (str (bytes "1.5")) → ⊥
unfolding is_str Base-open Utf8-open Points-open Core-open
half d = no_row d refl

hex : Core (bytes "0x1F") (str (bytes "0x1F")) → ⊥
unfolding is_str Base-open Utf8-open Points-open Core-open
hex d = no_row d refl

tilde : Core (bytes "~") (str (bytes "~")) → ⊥
unfolding is_str Base-open Utf8-open Points-open Core-open
tilde d = no_row d refl

-- ---- numbers of the core schema

seven : signed (bytes "-007") ≡ negsuc 6
unfolding Base-open Core-open
seven = refl

-- which of these the JSON schema has too
unpadded : T (matches json_decimal_text (bytes "0")) × T (matches json_decimal_text (bytes "-0")) × T (matches json_decimal_text (bytes "-70")) × T (not (matches json_decimal_text (bytes "+5")))
    × T (not (matches json_decimal_text (bytes "007"))) × T (not (matches json_decimal_text (bytes "-07"))) × T (not (matches json_decimal_text (bytes "-")))
unfolding Base-open Utf8-open Points-open Core-open
unpadded = (tt, tt, tt, tt, tt, tt, tt)

thirty : prefixed 16 (bytes "0x1F") ≡ pos 31
unfolding Base-open Core-open
thirty = refl

fifteen : prefixed 8 (bytes "0o17") ≡ pos 15
unfolding Base-open Core-open
fifteen = refl

floats : T (matches float_text (bytes "-1.5e+3")) × T (matches float_text (bytes ".5")) × T (matches float_text (bytes "+.INF")) × T (not (matches float_text (bytes "e3")))
unfolding Base-open Utf8-open Points-open Core-open
floats = (tt, tt, tt, tt)
