-- examples/hymn.yaml, a hymn with its words as a literal: it is YAML, and document 01 keeps it. The terms are written by compare/grammar. Assumes nothing.
use Rattle.std.proofs.Common.{◌≡◌, refl, ℕ, arith, List, [], ◌∷◌, take, drop}
use Rattle.std.proofs.Math.Option.{Option, some}
use Rattle.refusal.specs.Base.{bytes}
use Rattle.item.specs.Tree as Tree
use Rattle.yaml.specs.Scalars.{flow_out, d_end, d_char}
use Rattle.yaml.specs.Represent.{Rep, str, seq, map, end, ◌▸◌, done, pair, tree_of}
use Rattle.yaml.specs.Core.{to_str}
use Rattle.yaml.specs.Flow.{f_plain, f_quoted, q_double}
use Rattle.yaml.specs.Rows.{Row, node, note, body, blank, lf, c_end, c_more}
use Rattle.yaml.specs.Block.{strip, clip, l_none, l_empty, l_text, l_last, l_next, t_none, l_lines, key, b_seq, b_map, i_last, i_more, i_flow, i_map, e_flow, e_block, e_literal, Document, d_one, Stream}
use Rattle.yaml.specs.Block as B
use Rattle.yaml.specs.Kept.{Kept}
use Rattle.yaml.proofs.Plains.{is_plain_lem, All-open}

hymn_text : List ℕ
hymn_text = (bytes
    "# The Old Hundredth on Sundays; the panel shows the words while the drum plays.\nschema: passportsim/scenario@1\nname: Old Hundredth\ndescription: |-\n  Hymn for Sunday morning, two verses.\n  Played slowly, the last line slower.\nimage: drum two\ntags:\n  - hymn\n  - sunday\nsteps:\n  - show: |\n      All people that on earth do dwell,\n      Sing to the Lord with cheerful voice;\n\n        Him serve with fear, his praise forth tell,\n        Come ye before him, and rejoice.\n    name: words\n  - play: # a line of the tune each; # inside quotes stays\n      - \"G G F# E D G A B\"\n      - \"B B B A G C B A\"\n      - \"G A B A G E F# G\"\n      - \"D B G A C B A G\"\n    id: tune\n    timeout: 2m\n")

hymn_rows : List Row
hymn_rows = (note (bytes "# The Old Hundredth on Sundays; the panel shows the words while the drum plays.") lf) ∷ (node 0 (bytes
    "schema: passportsim/scenario@1") [] lf) ∷ (node 0 (bytes "name: Old Hundredth") [] lf) ∷ (node 0 (bytes "description: |-") [] lf) ∷ (body 2
    (bytes "Hymn for Sunday morning, two verses.") lf) ∷ (body 2 (bytes "Played slowly, the last line slower.") lf) ∷ (node 0 (bytes
    "image: drum two") [] lf) ∷ (node 0 (bytes "tags:") [] lf) ∷ (node 2 (bytes "- hymn") [] lf) ∷ (node 2 (bytes "- sunday") [] lf) ∷ (node 0 (bytes
    "steps:") [] lf) ∷ (node 2 (bytes "- show: |") [] lf) ∷ (body 6 (bytes "All people that on earth do dwell,") lf) ∷ (body 6 (bytes
    "Sing to the Lord with cheerful voice;") lf) ∷ (blank 0 lf) ∷ (body 6 (bytes "  Him serve with fear, his praise forth tell,") lf) ∷ (body 6 (bytes
    "  Come ye before him, and rejoice.") lf) ∷ (node 4 (bytes "name: words") [] lf) ∷ (node 2 (bytes "- play:") (bytes
    " # a line of the tune each; # inside quotes stays") lf) ∷ (node 6 (bytes "- \"G G F# E D G A B\"") [] lf) ∷ (node 6 (bytes
    "- \"B B B A G C B A\"") [] lf) ∷ (node 6 (bytes "- \"G A B A G E F# G\"") [] lf) ∷ (node 6 (bytes "- \"D B G A C B A G\"") [] lf) ∷ (node 4
    (bytes "id: tune") [] lf) ∷ (node 4 (bytes "timeout: 2m") [] lf) ∷ []

-- so many of them from a place on
hymn_from : ℕ → ℕ → List Row
hymn_from a n = take n (drop a hymn_rows)

abbrev hymn_means : Option Rep
hymn_means = some (map (pair (str (bytes "schema")) (str (bytes "passportsim/scenario@1")) (pair (str (bytes "name")) (str (bytes "Old Hundredth"))
    (pair (str (bytes "description")) (str (bytes "Hymn for Sunday morning, two verses.\nPlayed slowly, the last line slower.")) (pair (str (bytes
    "image")) (str (bytes "drum two")) (pair (str (bytes "tags")) (seq ((str (bytes "hymn")) ▸ ((str (bytes "sunday")) ▸ end))) (pair (str (bytes
    "steps")) (seq ((map (pair (str (bytes "show")) (str (bytes
    "All people that on earth do dwell,\nSing to the Lord with cheerful voice;\n\n  Him serve with fear, his praise forth tell,\n  Come ye before him, and rejoice.\n"))
    (pair (str (bytes "name")) (str (bytes "words")) done))) ▸ ((map (pair (str (bytes "play")) (seq ((str (bytes "G G F# E D G A B")) ▸ ((str (bytes
    "B B B A G C B A")) ▸ ((str (bytes "G A B A G E F# G")) ▸ ((str (bytes "D B G A C B A G")) ▸ end))))) (pair (str (bytes "id")) (str (bytes
    "tune")) (pair (str (bytes "timeout")) (str (bytes "2m")) done)))) ▸ end))) done)))))))

hymn-is : Document hymn_rows hymn_means
unfolding hymn_rows hymn_from All-open
hymn-is = (d_one {cs = (hymn_from 0 1)} {xs = (hymn_from 1 24)} {m = 0} (c_more tt c_end) (b_map (B.m_more {xs = (hymn_from 1 1)} {ys = (hymn_from 2
    23)} (e_flow [] (key [] (f_plain (is_plain_lem flow_out (bytes "schema") tt) (to_str tt)) tt refl tt) tt (f_plain (is_plain_lem flow_out (bytes
    "passportsim/scenario@1") tt) (to_str tt)) tt c_end refl) (B.m_more {xs = (hymn_from 2 1)} {ys = (hymn_from 3 22)} (e_flow [] (key [] (f_plain
    (is_plain_lem flow_out (bytes "name") tt) (to_str tt)) tt refl tt) tt (f_plain (is_plain_lem flow_out (bytes "Old Hundredth") tt) (to_str tt)) tt c_end
    refl) (B.m_more {xs = (hymn_from 3 3)} {ys = (hymn_from 6 19)} (e_literal {n = 0} [] strip (key [] (f_plain (is_plain_lem flow_out (bytes
    "description") tt) (to_str tt)) tt refl tt) tt tt (l_lines {xs = (hymn_from 4 2)} {ys = []} {m = 2} (omega arith) (l_next {xs = (hymn_from 4 1)}
    {ys = (hymn_from 5 1)} (l_text {bs = []} (bytes "Hymn for Sunday morning, two verses.") l_none tt tt refl refl) (l_last (l_text {bs = []} (bytes
    "Played slowly, the last line slower.") l_none tt tt refl refl)) refl refl) tt t_none refl refl) refl) (B.m_more {xs = (hymn_from 6 1)} {ys =
    (hymn_from 7 18)} (e_flow [] (key [] (f_plain (is_plain_lem flow_out (bytes "image") tt) (to_str tt)) tt refl tt) tt (f_plain (is_plain_lem flow_out
    (bytes "drum two") tt) (to_str tt)) tt c_end refl) (B.m_more {xs = (hymn_from 7 3)} {ys = (hymn_from 10 15)} (e_block {n = 0} {m = 2} {cs = []}
    {xs = (hymn_from 8 2)} (key [] (f_plain (is_plain_lem flow_out (bytes "tags") tt) (to_str tt)) tt refl tt) tt c_end (omega arith) (b_seq (i_more {xs =
    (hymn_from 8 1)} {ys = (hymn_from 9 1)} (i_flow [] tt (f_plain (is_plain_lem flow_out (bytes "hymn") tt) (to_str tt)) tt c_end refl) (i_last (i_flow
    [] tt (f_plain (is_plain_lem flow_out (bytes "sunday") tt) (to_str tt)) tt c_end refl)) refl)) refl) (B.m_last (e_block {n = 0} {m = 2} {cs = []} {xs
    = (hymn_from 11 14)} (key [] (f_plain (is_plain_lem flow_out (bytes "steps") tt) (to_str tt)) tt refl tt) tt c_end (omega arith) (b_seq (i_more {xs =
    (hymn_from 11 7)} {ys = (hymn_from 18 7)} (i_map {t = (bytes "show: |")} 0 refl (B.m_more {xs = ((node 4 (bytes "show: |") [] lf) ∷ hymn_from 12
    5)} {ys = (hymn_from 17 1)} (e_literal {n = 4} [] clip (key [] (f_plain (is_plain_lem flow_out (bytes "show") tt) (to_str tt)) tt refl tt) tt tt
    (l_lines {xs = (hymn_from 12 5)} {ys = []} {m = 6} (omega arith) (l_next {xs = (hymn_from 12 1)} {ys = (hymn_from 13 4)} (l_text {bs = []} (bytes
    "All people that on earth do dwell,") l_none tt tt refl refl) (l_next {xs = (hymn_from 13 1)} {ys = (hymn_from 14 3)} (l_text {bs = []} (bytes
    "Sing to the Lord with cheerful voice;") l_none tt tt refl refl) (l_next {xs = (hymn_from 14 2)} {ys = (hymn_from 16 1)} (l_text {bs = (hymn_from
    14 1)} (bytes "  Him serve with fear, his praise forth tell,") (l_empty {k = 0} (omega arith) l_none) tt tt refl refl) (l_last (l_text {bs = []}
    (bytes "  Come ye before him, and rejoice.") l_none tt tt refl refl)) refl refl) refl refl) refl refl) tt t_none refl refl) refl) (B.m_last
    (e_flow [] (key [] (f_plain (is_plain_lem flow_out (bytes "name") tt) (to_str tt)) tt refl tt) tt (f_plain (is_plain_lem flow_out (bytes "words") tt)
    (to_str tt)) tt c_end refl)) refl) refl) (i_last (i_map {t = (bytes "play:")} 0 refl (B.m_more {xs = ((node 4 (bytes "play:") (bytes
    " # a line of the tune each; # inside quotes stays") lf) ∷ hymn_from 19 4)} {ys = (hymn_from 23 2)} (e_block {n = 4} {m = 6} {cs = []} {xs =
    (hymn_from 19 4)} (key [] (f_plain (is_plain_lem flow_out (bytes "play") tt) (to_str tt)) tt refl tt) tt c_end (omega arith) (b_seq (i_more {xs =
    (hymn_from 19 1)} {ys = (hymn_from 20 3)} (i_flow [] tt (f_quoted (q_double {t = (bytes "G G F# E D G A B")} {v = (bytes "G G F# E D G A B")}
    (d_char tt (d_char tt (d_char tt (d_char tt (d_char tt (d_char tt (d_char tt (d_char tt (d_char tt (d_char tt (d_char tt (d_char tt (d_char tt
    (d_char tt (d_char tt (d_char tt d_end)))))))))))))))) refl)) tt c_end refl) (i_more {xs = (hymn_from 20 1)} {ys = (hymn_from 21 2)} (i_flow [] tt
    (f_quoted (q_double {t = (bytes "B B B A G C B A")} {v = (bytes "B B B A G C B A")} (d_char tt (d_char tt (d_char tt (d_char tt (d_char tt (d_char
    tt (d_char tt (d_char tt (d_char tt (d_char tt (d_char tt (d_char tt (d_char tt (d_char tt (d_char tt d_end))))))))))))))) refl)) tt c_end refl)
    (i_more {xs = (hymn_from 21 1)} {ys = (hymn_from 22 1)} (i_flow [] tt (f_quoted (q_double {t = (bytes "G A B A G E F# G")} {v = (bytes
    "G A B A G E F# G")} (d_char tt (d_char tt (d_char tt (d_char tt (d_char tt (d_char tt (d_char tt (d_char tt (d_char tt (d_char tt (d_char tt
    (d_char tt (d_char tt (d_char tt (d_char tt (d_char tt d_end)))))))))))))))) refl)) tt c_end refl) (i_last (i_flow [] tt (f_quoted (q_double {t =
    (bytes "D B G A C B A G")} {v = (bytes "D B G A C B A G")} (d_char tt (d_char tt (d_char tt (d_char tt (d_char tt (d_char tt (d_char tt (d_char tt
    (d_char tt (d_char tt (d_char tt (d_char tt (d_char tt (d_char tt (d_char tt d_end))))))))))))))) refl)) tt c_end refl)) refl) refl) refl)) refl)
    (B.m_more {xs = (hymn_from 23 1)} {ys = (hymn_from 24 1)} (e_flow [] (key [] (f_plain (is_plain_lem flow_out (bytes "id") tt) (to_str tt)) tt refl tt)
    tt (f_plain (is_plain_lem flow_out (bytes "tune") tt) (to_str tt)) tt c_end refl) (B.m_last (e_flow [] (key [] (f_plain (is_plain_lem flow_out (bytes
    "timeout") tt) (to_str tt)) tt refl tt) tt (f_plain (is_plain_lem flow_out (bytes "2m") tt) (to_str tt)) tt c_end refl)) refl) refl) refl)) refl))
    refl)) refl) refl) refl) refl) refl)) refl)

hymn : Stream hymn_text hymn_means
unfolding hymn_text hymn_rows All-open
hymn = record {
  rows = hymn_rows;
  is = refl;
  ends = tt;
  bare = tt;
  printable = record { points = hymn_text; is = refl; are = tt };
  document = hymn-is;
}

hymn-kept : Kept hymn
unfolding hymn hymn_rows hymn-is hymn_from All-open
hymn-kept = record {
  document = (
    (((refl, tt), refl), refl, (refl, tt)),
    (
      (((refl, tt), refl), refl, (refl, tt)),
      (
        (((refl, tt), refl), refl, tt),
        (
          (((refl, tt), refl), refl, (refl, tt)),
          (
            (((refl, tt), refl), refl, (((refl, tt), refl), ((refl, tt), refl))),
            (
              ((refl, tt), refl),
              refl,
              (
                ((((refl, tt), refl), refl, tt), (((refl, tt), refl), refl, (refl, tt))),
                (
                  (
                    ((refl, tt), refl),
                    refl,
                    (
                      (tt, refl),
                      (
                        (tt, refl),
                        (
                          (tt, refl),
                          (
                            tt,
                            refl,
                          ),
                        ),
                      ),
                    ),
                  ),
                  ((((refl, tt), refl), refl, (refl, tt)), (((refl, tt), refl), refl, (refl, tt))),
                ),
              ),
            ),
          ),
        ),
      ),
    ),
  );
  lines = (
    refl,
    (
      refl,
      (
        refl,
        (
          refl,
          (
            omega
                arith,
            (refl, refl),
            (
              omega arith,
              (refl, refl),
              (
                refl,
                (
                  refl,
                  (
                    refl,
                    (
                      refl,
                      (
                        refl,
                        (
                          refl,
                          (
                            omega arith,
                            (refl, refl),
                            (
                              omega arith,
                              (refl, refl),
                              (omega arith, (refl, refl), (omega arith, (refl, refl), (refl, (refl, (refl, (refl, (refl, (refl, (refl, (refl, tt)))))))))),
                            ),
                          ),
                        ),
                      ),
                    ),
                  ),
                ),
              ),
            ),
          ),
        ),
      ),
    ),
  );
}

hymn-tree : tree_of hymn_means ≡ some (Tree.dict (Tree.pair (bytes "schema") (Tree.str (bytes "passportsim/scenario@1")) (Tree.pair (bytes "name")
    (Tree.str (bytes "Old Hundredth")) (Tree.pair (bytes "description") (Tree.str (bytes
    "Hymn for Sunday morning, two verses.\nPlayed slowly, the last line slower.")) (Tree.pair (bytes "image") (Tree.str (bytes "drum two")) (Tree.pair
    (bytes "tags") (Tree.seq (Tree.◌▸◌ (Tree.str (bytes "hymn")) (Tree.◌▸◌ (Tree.str (bytes "sunday")) Tree.end))) (Tree.pair (bytes "steps")
    (Tree.seq (Tree.◌▸◌ (Tree.dict (Tree.pair (bytes "show") (Tree.str (bytes
    "All people that on earth do dwell,\nSing to the Lord with cheerful voice;\n\n  Him serve with fear, his praise forth tell,\n  Come ye before him, and rejoice.\n"))
    (Tree.pair (bytes "name") (Tree.str (bytes "words")) Tree.done))) (Tree.◌▸◌ (Tree.dict (Tree.pair (bytes "play") (Tree.seq (Tree.◌▸◌ (Tree.str
    (bytes "G G F# E D G A B")) (Tree.◌▸◌ (Tree.str (bytes "B B B A G C B A")) (Tree.◌▸◌ (Tree.str (bytes "G A B A G E F# G")) (Tree.◌▸◌ (Tree.str
    (bytes "D B G A C B A G")) Tree.end))))) (Tree.pair (bytes "id") (Tree.str (bytes "tune")) (Tree.pair (bytes "timeout") (Tree.str (bytes "2m"))
    Tree.done)))) Tree.end))) Tree.done)))))))
unfolding All-open
hymn-tree = refl
