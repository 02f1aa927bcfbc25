-- examples/rounds.yaml, change ringing: it is YAML, and document 01 keeps it. The terms are written by compare/grammar. Assumes nothing.
use Rattle.std.proofs.Common.{◌≡◌, refl, ℕ, arith, List, [], ◌∷◌, take, drop, pos}
use Rattle.std.proofs.Math.Option.{Option, some}
use Rattle.refusal.specs.Base.{bytes}
use Rattle.item.specs.Tree as Tree
use Rattle.yaml.specs.Scalars.{flow_out, flow_in}
use Rattle.yaml.specs.Represent.{Rep, int, str, seq, map, end, ◌▸◌, done, pair, tree_of}
use Rattle.yaml.specs.Core.{to_decimal, to_str}
use Rattle.yaml.specs.Flow.{f_plain, f_seq, f_map, s_last, s_more, p_value}
use Rattle.yaml.specs.Flow as F
use Rattle.yaml.specs.Rows.{Row, node, note, lf, c_end, c_more}
use Rattle.yaml.specs.Block.{key, b_seq, b_map, i_last, i_more, i_map, e_flow, e_block, Document, d_one, Stream}
use Rattle.yaml.specs.Block as B
use Rattle.yaml.specs.Kept.{Kept}
use Rattle.yaml.proofs.Plains.{is_plain_lem, All-open}

rounds_text : List ℕ
rounds_text = (bytes
    "# Plain hunt on four bells, three times over, between rounds. 1 is the treble.\nschema: passportsim/scenario@1\nname: plain hunt on four\ntags: [changes]\nfail_on: [bell silent, bell late]\nsteps:\n  - repeat: {times: 2, steps: [{row: [1, 2, 3, 4]}, {delay: 250ms}]}\n    name: rounds\n  - repeat:\n      times: 3\n      steps:\n        - row: [2, 1, 4, 3]\n        - row: [2, 4, 1, 3]\n        - row: [4, 2, 3, 1]\n        - row: [4, 3, 2, 1]\n        - row: [3, 4, 1, 2]\n        - row: [3, 1, 4, 2]\n        - row: [1, 3, 2, 4]\n        - row: [1, 2, 3, 4]\n    name: the hunt\n    id: hunt\n  - repeat: {times: 2, steps: [{row: [1, 2, 3, 4]}]}\n    name: rounds again\n")

rounds_rows : List Row
rounds_rows = (note (bytes "# Plain hunt on four bells, three times over, between rounds. 1 is the treble.") lf) ∷ (node 0 (bytes
    "schema: passportsim/scenario@1") [] lf) ∷ (node 0 (bytes "name: plain hunt on four") [] lf) ∷ (node 0 (bytes "tags: [changes]") [] lf) ∷ (node 0
    (bytes "fail_on: [bell silent, bell late]") [] lf) ∷ (node 0 (bytes "steps:") [] lf) ∷ (node 2 (bytes
    "- repeat: {times: 2, steps: [{row: [1, 2, 3, 4]}, {delay: 250ms}]}") [] lf) ∷ (node 4 (bytes "name: rounds") [] lf) ∷ (node 2 (bytes "- repeat:")
    [] lf) ∷ (node 6 (bytes "times: 3") [] lf) ∷ (node 6 (bytes "steps:") [] lf) ∷ (node 8 (bytes "- row: [2, 1, 4, 3]") [] lf) ∷ (node 8 (bytes
    "- row: [2, 4, 1, 3]") [] lf) ∷ (node 8 (bytes "- row: [4, 2, 3, 1]") [] lf) ∷ (node 8 (bytes "- row: [4, 3, 2, 1]") [] lf) ∷ (node 8 (bytes
    "- row: [3, 4, 1, 2]") [] lf) ∷ (node 8 (bytes "- row: [3, 1, 4, 2]") [] lf) ∷ (node 8 (bytes "- row: [1, 3, 2, 4]") [] lf) ∷ (node 8 (bytes
    "- row: [1, 2, 3, 4]") [] lf) ∷ (node 4 (bytes "name: the hunt") [] lf) ∷ (node 4 (bytes "id: hunt") [] lf) ∷ (node 2 (bytes
    "- repeat: {times: 2, steps: [{row: [1, 2, 3, 4]}]}") [] lf) ∷ (node 4 (bytes "name: rounds again") [] lf) ∷ []

-- so many of them from a place on
rounds_from : ℕ → ℕ → List Row
rounds_from a n = take n (drop a rounds_rows)

abbrev rounds_means : Option Rep
rounds_means = some (map (pair (str (bytes "schema")) (str (bytes "passportsim/scenario@1")) (pair (str (bytes "name")) (str (bytes
    "plain hunt on four")) (pair (str (bytes "tags")) (seq ((str (bytes "changes")) ▸ end)) (pair (str (bytes "fail_on")) (seq ((str (bytes
    "bell silent")) ▸ ((str (bytes "bell late")) ▸ end))) (pair (str (bytes "steps")) (seq ((map (pair (str (bytes "repeat")) (map (pair (str (bytes
    "times")) (int (pos 2)) (pair (str (bytes "steps")) (seq ((map (pair (str (bytes "row")) (seq ((int (pos 1)) ▸ ((int (pos 2)) ▸ ((int (pos 3)) ▸
    ((int (pos 4)) ▸ end))))) done)) ▸ ((map (pair (str (bytes "delay")) (str (bytes "250ms")) done)) ▸ end))) done))) (pair (str (bytes "name")) (str
    (bytes "rounds")) done))) ▸ ((map (pair (str (bytes "repeat")) (map (pair (str (bytes "times")) (int (pos 3)) (pair (str (bytes "steps")) (seq
    ((map (pair (str (bytes "row")) (seq ((int (pos 2)) ▸ ((int (pos 1)) ▸ ((int (pos 4)) ▸ ((int (pos 3)) ▸ end))))) done)) ▸ ((map (pair (str (bytes
    "row")) (seq ((int (pos 2)) ▸ ((int (pos 4)) ▸ ((int (pos 1)) ▸ ((int (pos 3)) ▸ end))))) done)) ▸ ((map (pair (str (bytes "row")) (seq ((int (pos
    4)) ▸ ((int (pos 2)) ▸ ((int (pos 3)) ▸ ((int (pos 1)) ▸ end))))) done)) ▸ ((map (pair (str (bytes "row")) (seq ((int (pos 4)) ▸ ((int (pos 3)) ▸
    ((int (pos 2)) ▸ ((int (pos 1)) ▸ end))))) done)) ▸ ((map (pair (str (bytes "row")) (seq ((int (pos 3)) ▸ ((int (pos 4)) ▸ ((int (pos 1)) ▸ ((int
    (pos 2)) ▸ end))))) done)) ▸ ((map (pair (str (bytes "row")) (seq ((int (pos 3)) ▸ ((int (pos 1)) ▸ ((int (pos 4)) ▸ ((int (pos 2)) ▸ end)))))
    done)) ▸ ((map (pair (str (bytes "row")) (seq ((int (pos 1)) ▸ ((int (pos 3)) ▸ ((int (pos 2)) ▸ ((int (pos 4)) ▸ end))))) done)) ▸ ((map (pair
    (str (bytes "row")) (seq ((int (pos 1)) ▸ ((int (pos 2)) ▸ ((int (pos 3)) ▸ ((int (pos 4)) ▸ end))))) done)) ▸ end))))))))) done))) (pair (str
    (bytes "name")) (str (bytes "the hunt")) (pair (str (bytes "id")) (str (bytes "hunt")) done)))) ▸ ((map (pair (str (bytes "repeat")) (map (pair
    (str (bytes "times")) (int (pos 2)) (pair (str (bytes "steps")) (seq ((map (pair (str (bytes "row")) (seq ((int (pos 1)) ▸ ((int (pos 2)) ▸ ((int
    (pos 3)) ▸ ((int (pos 4)) ▸ end))))) done)) ▸ end)) done))) (pair (str (bytes "name")) (str (bytes "rounds again")) done))) ▸ end)))) done))))))

rounds-is : Document rounds_rows rounds_means
unfolding rounds_rows rounds_from All-open
rounds-is = (d_one {cs = (rounds_from 0 1)} {xs = (rounds_from 1 22)} {m = 0} (c_more tt c_end) (b_map (B.m_more {xs = (rounds_from 1 1)} {ys =
    (rounds_from 2 21)} (e_flow [] (key [] (f_plain (is_plain_lem flow_out (bytes "schema") tt) (to_str tt)) tt refl tt) tt (f_plain (is_plain_lem flow_out
    (bytes "passportsim/scenario@1") tt) (to_str tt)) tt c_end refl) (B.m_more {xs = (rounds_from 2 1)} {ys = (rounds_from 3 20)} (e_flow [] (key []
    (f_plain (is_plain_lem flow_out (bytes "name") tt) (to_str tt)) tt refl tt) tt (f_plain (is_plain_lem flow_out (bytes "plain hunt on four") tt) (to_str
    tt)) tt c_end refl) (B.m_more {xs = (rounds_from 3 1)} {ys = (rounds_from 4 19)} (e_flow [] (key [] (f_plain (is_plain_lem flow_out (bytes "tags") tt)
    (to_str tt)) tt refl tt) tt (f_seq 0 (s_last 0 (f_plain (is_plain_lem flow_in (bytes "changes") tt) (to_str tt)) refl) refl) tt c_end refl) (B.m_more
    {xs = (rounds_from 4 1)} {ys = (rounds_from 5 18)} (e_flow [] (key [] (f_plain (is_plain_lem flow_out (bytes "fail_on") tt) (to_str tt)) tt refl tt)
    tt (f_seq 0 (s_more 0 1 (f_plain (is_plain_lem flow_in (bytes "bell silent") tt) (to_str tt)) (s_last 0 (f_plain (is_plain_lem flow_in (bytes "bell late")
    tt) (to_str tt)) refl) refl) refl) tt c_end refl) (B.m_last (e_block {n = 0} {m = 2} {cs = []} {xs = (rounds_from 6 17)} (key [] (f_plain
    (is_plain_lem flow_out (bytes "steps") tt) (to_str tt)) tt refl tt) tt c_end (omega arith) (b_seq (i_more {xs = (rounds_from 6 2)} {ys = (rounds_from
    8 15)} (i_map {t = (bytes "repeat: {times: 2, steps: [{row: [1, 2, 3, 4]}, {delay: 250ms}]}")} 0 refl (B.m_more {xs = ((node 4 (bytes
    "repeat: {times: 2, steps: [{row: [1, 2, 3, 4]}, {delay: 250ms}]}") [] lf) ∷ [])} {ys = (rounds_from 7 1)} (e_flow [] (key [] (f_plain (is_plain_lem
    flow_out (bytes "repeat") tt) (to_str tt)) tt refl tt) tt (f_map 0 (F.m_more 0 1 (p_value 0 0 (f_plain (is_plain_lem flow_in (bytes "times") tt)
    (to_str tt)) (f_plain (is_plain_lem flow_in (bytes "2") tt) (to_decimal tt)) refl) (F.m_last 0 (p_value 0 0 (f_plain (is_plain_lem flow_in (bytes "steps")
    tt) (to_str tt)) (f_seq 0 (s_more 0 1 (f_map 0 (F.m_last 0 (p_value 0 0 (f_plain (is_plain_lem flow_in (bytes "row") tt) (to_str tt)) (f_seq 0 (s_more
    0 1 (f_plain (is_plain_lem flow_in (bytes "1") tt) (to_decimal tt)) (s_more 0 1 (f_plain (is_plain_lem flow_in (bytes "2") tt) (to_decimal tt)) (s_more 0
    1 (f_plain (is_plain_lem flow_in (bytes "3") tt) (to_decimal tt)) (s_last 0 (f_plain (is_plain_lem flow_in (bytes "4") tt) (to_decimal tt)) refl) refl)
    refl) refl) refl) refl) refl) refl) (s_last 0 (f_map 0 (F.m_last 0 (p_value 0 0 (f_plain (is_plain_lem flow_in (bytes "delay") tt) (to_str tt))
    (f_plain (is_plain_lem flow_in (bytes "250ms") tt) (to_str tt)) refl) refl) refl) refl) refl) refl) refl) refl) refl) refl) tt c_end refl) (B.m_last
    (e_flow [] (key [] (f_plain (is_plain_lem flow_out (bytes "name") tt) (to_str tt)) tt refl tt) tt (f_plain (is_plain_lem flow_out (bytes "rounds") tt)
    (to_str tt)) tt c_end refl)) refl) refl) (i_more {xs = (rounds_from 8 13)} {ys = (rounds_from 21 2)} (i_map {t = (bytes "repeat:")} 0 refl
    (B.m_more {xs = ((node 4 (bytes "repeat:") [] lf) ∷ rounds_from 9 10)} {ys = (rounds_from 19 2)} (e_block {n = 4} {m = 6} {cs = []} {xs =
    (rounds_from 9 10)} (key [] (f_plain (is_plain_lem flow_out (bytes "repeat") tt) (to_str tt)) tt refl tt) tt c_end (omega arith) (b_map (B.m_more {xs
    = (rounds_from 9 1)} {ys = (rounds_from 10 9)} (e_flow [] (key [] (f_plain (is_plain_lem flow_out (bytes "times") tt) (to_str tt)) tt refl tt) tt
    (f_plain (is_plain_lem flow_out (bytes "3") tt) (to_decimal tt)) tt c_end refl) (B.m_last (e_block {n = 6} {m = 8} {cs = []} {xs = (rounds_from 11 8)}
    (key [] (f_plain (is_plain_lem flow_out (bytes "steps") tt) (to_str tt)) tt refl tt) tt c_end (omega arith) (b_seq (i_more {xs = (rounds_from 11 1)}
    {ys = (rounds_from 12 7)} (i_map {t = (bytes "row: [2, 1, 4, 3]")} 0 refl (B.m_last (e_flow [] (key [] (f_plain (is_plain_lem flow_out (bytes "row")
    tt) (to_str tt)) tt refl tt) tt (f_seq 0 (s_more 0 1 (f_plain (is_plain_lem flow_in (bytes "2") tt) (to_decimal tt)) (s_more 0 1 (f_plain (is_plain_lem
    flow_in (bytes "1") tt) (to_decimal tt)) (s_more 0 1 (f_plain (is_plain_lem flow_in (bytes "4") tt) (to_decimal tt)) (s_last 0 (f_plain (is_plain_lem
    flow_in (bytes "3") tt) (to_decimal tt)) refl) refl) refl) refl) refl) tt c_end refl)) refl) (i_more {xs = (rounds_from 12 1)} {ys = (rounds_from
    13 6)} (i_map {t = (bytes "row: [2, 4, 1, 3]")} 0 refl (B.m_last (e_flow [] (key [] (f_plain (is_plain_lem flow_out (bytes "row") tt) (to_str tt)) tt
    refl tt) tt (f_seq 0 (s_more 0 1 (f_plain (is_plain_lem flow_in (bytes "2") tt) (to_decimal tt)) (s_more 0 1 (f_plain (is_plain_lem flow_in (bytes "4")
    tt) (to_decimal tt)) (s_more 0 1 (f_plain (is_plain_lem flow_in (bytes "1") tt) (to_decimal tt)) (s_last 0 (f_plain (is_plain_lem flow_in (bytes "3") tt)
    (to_decimal tt)) refl) refl) refl) refl) refl) tt c_end refl)) refl) (i_more {xs = (rounds_from 13 1)} {ys = (rounds_from 14 5)} (i_map {t =
    (bytes "row: [4, 2, 3, 1]")} 0 refl (B.m_last (e_flow [] (key [] (f_plain (is_plain_lem flow_out (bytes "row") tt) (to_str tt)) tt refl tt) tt (f_seq
    0 (s_more 0 1 (f_plain (is_plain_lem flow_in (bytes "4") tt) (to_decimal tt)) (s_more 0 1 (f_plain (is_plain_lem flow_in (bytes "2") tt) (to_decimal tt))
    (s_more 0 1 (f_plain (is_plain_lem flow_in (bytes "3") tt) (to_decimal tt)) (s_last 0 (f_plain (is_plain_lem flow_in (bytes "1") tt) (to_decimal tt))
    refl) refl) refl) refl) refl) tt c_end refl)) refl) (i_more {xs = (rounds_from 14 1)} {ys = (rounds_from 15 4)} (i_map {t = (bytes
    "row: [4, 3, 2, 1]")} 0 refl (B.m_last (e_flow [] (key [] (f_plain (is_plain_lem flow_out (bytes "row") tt) (to_str tt)) tt refl tt) tt (f_seq 0
    (s_more 0 1 (f_plain (is_plain_lem flow_in (bytes "4") tt) (to_decimal tt)) (s_more 0 1 (f_plain (is_plain_lem flow_in (bytes "3") tt) (to_decimal tt))
    (s_more 0 1 (f_plain (is_plain_lem flow_in (bytes "2") tt) (to_decimal tt)) (s_last 0 (f_plain (is_plain_lem flow_in (bytes "1") tt) (to_decimal tt))
    refl) refl) refl) refl) refl) tt c_end refl)) refl) (i_more {xs = (rounds_from 15 1)} {ys = (rounds_from 16 3)} (i_map {t = (bytes
    "row: [3, 4, 1, 2]")} 0 refl (B.m_last (e_flow [] (key [] (f_plain (is_plain_lem flow_out (bytes "row") tt) (to_str tt)) tt refl tt) tt (f_seq 0
    (s_more 0 1 (f_plain (is_plain_lem flow_in (bytes "3") tt) (to_decimal tt)) (s_more 0 1 (f_plain (is_plain_lem flow_in (bytes "4") tt) (to_decimal tt))
    (s_more 0 1 (f_plain (is_plain_lem flow_in (bytes "1") tt) (to_decimal tt)) (s_last 0 (f_plain (is_plain_lem flow_in (bytes "2") tt) (to_decimal tt))
    refl) refl) refl) refl) refl) tt c_end refl)) refl) (i_more {xs = (rounds_from 16 1)} {ys = (rounds_from 17 2)} (i_map {t = (bytes
    "row: [3, 1, 4, 2]")} 0 refl (B.m_last (e_flow [] (key [] (f_plain (is_plain_lem flow_out (bytes "row") tt) (to_str tt)) tt refl tt) tt (f_seq 0
    (s_more 0 1 (f_plain (is_plain_lem flow_in (bytes "3") tt) (to_decimal tt)) (s_more 0 1 (f_plain (is_plain_lem flow_in (bytes "1") tt) (to_decimal tt))
    (s_more 0 1 (f_plain (is_plain_lem flow_in (bytes "4") tt) (to_decimal tt)) (s_last 0 (f_plain (is_plain_lem flow_in (bytes "2") tt) (to_decimal tt))
    refl) refl) refl) refl) refl) tt c_end refl)) refl) (i_more {xs = (rounds_from 17 1)} {ys = (rounds_from 18 1)} (i_map {t = (bytes
    "row: [1, 3, 2, 4]")} 0 refl (B.m_last (e_flow [] (key [] (f_plain (is_plain_lem flow_out (bytes "row") tt) (to_str tt)) tt refl tt) tt (f_seq 0
    (s_more 0 1 (f_plain (is_plain_lem flow_in (bytes "1") tt) (to_decimal tt)) (s_more 0 1 (f_plain (is_plain_lem flow_in (bytes "3") tt) (to_decimal tt))
    (s_more 0 1 (f_plain (is_plain_lem flow_in (bytes "2") tt) (to_decimal tt)) (s_last 0 (f_plain (is_plain_lem flow_in (bytes "4") tt) (to_decimal tt))
    refl) refl) refl) refl) refl) tt c_end refl)) refl) (i_last (i_map {t = (bytes "row: [1, 2, 3, 4]")} 0 refl (B.m_last (e_flow [] (key [] (f_plain
    (is_plain_lem flow_out (bytes "row") tt) (to_str tt)) tt refl tt) tt (f_seq 0 (s_more 0 1 (f_plain (is_plain_lem flow_in (bytes "1") tt) (to_decimal tt))
    (s_more 0 1 (f_plain (is_plain_lem flow_in (bytes "2") tt) (to_decimal tt)) (s_more 0 1 (f_plain (is_plain_lem flow_in (bytes "3") tt) (to_decimal tt))
    (s_last 0 (f_plain (is_plain_lem flow_in (bytes "4") tt) (to_decimal tt)) refl) refl) refl) refl) refl) tt c_end refl)) refl)) refl) refl) refl) refl)
    refl) refl) refl)) refl)) refl)) refl) (B.m_more {xs = (rounds_from 19 1)} {ys = (rounds_from 20 1)} (e_flow [] (key [] (f_plain (is_plain_lem
    flow_out (bytes "name") tt) (to_str tt)) tt refl tt) tt (f_plain (is_plain_lem flow_out (bytes "the hunt") tt) (to_str tt)) tt c_end refl) (B.m_last
    (e_flow [] (key [] (f_plain (is_plain_lem flow_out (bytes "id") tt) (to_str tt)) tt refl tt) tt (f_plain (is_plain_lem flow_out (bytes "hunt") tt) (to_str
    tt)) tt c_end refl)) refl) refl) refl) (i_last (i_map {t = (bytes "repeat: {times: 2, steps: [{row: [1, 2, 3, 4]}]}")} 0 refl (B.m_more {xs =
    ((node 4 (bytes "repeat: {times: 2, steps: [{row: [1, 2, 3, 4]}]}") [] lf) ∷ [])} {ys = (rounds_from 22 1)} (e_flow [] (key [] (f_plain (is_plain_lem
    flow_out (bytes "repeat") tt) (to_str tt)) tt refl tt) tt (f_map 0 (F.m_more 0 1 (p_value 0 0 (f_plain (is_plain_lem flow_in (bytes "times") tt)
    (to_str tt)) (f_plain (is_plain_lem flow_in (bytes "2") tt) (to_decimal tt)) refl) (F.m_last 0 (p_value 0 0 (f_plain (is_plain_lem flow_in (bytes "steps")
    tt) (to_str tt)) (f_seq 0 (s_last 0 (f_map 0 (F.m_last 0 (p_value 0 0 (f_plain (is_plain_lem flow_in (bytes "row") tt) (to_str tt)) (f_seq 0 (s_more 0
    1 (f_plain (is_plain_lem flow_in (bytes "1") tt) (to_decimal tt)) (s_more 0 1 (f_plain (is_plain_lem flow_in (bytes "2") tt) (to_decimal tt)) (s_more 0 1
    (f_plain (is_plain_lem flow_in (bytes "3") tt) (to_decimal tt)) (s_last 0 (f_plain (is_plain_lem flow_in (bytes "4") tt) (to_decimal tt)) refl) refl)
    refl) refl) refl) refl) refl) refl) refl) refl) refl) refl) refl) refl) tt c_end refl) (B.m_last (e_flow [] (key [] (f_plain (is_plain_lem flow_out
    (bytes "name") tt) (to_str tt)) tt refl tt) tt (f_plain (is_plain_lem flow_out (bytes "rounds again") tt) (to_str tt)) tt c_end refl)) refl) refl))
    refl) refl)) refl)) refl) refl) refl) refl)) refl)

rounds : Stream rounds_text rounds_means
unfolding rounds_text rounds_rows All-open
rounds = record {
  rows = rounds_rows;
  is = refl;
  ends = tt;
  bare = tt;
  printable = record { points = rounds_text; is = refl; are = tt };
  document =
      rounds-is;
}

rounds-kept : Kept rounds
unfolding rounds rounds_rows rounds-is rounds_from All-open
rounds-kept = record {
  document = (
    (((refl, tt), refl), refl, (refl, tt)),
    (
      (((refl, tt), refl), refl, (refl, tt)),
      (
        (
          ((refl, tt), refl),
          refl,
          (
            refl,
            tt,
          ),
        ),
        (
          (((refl, tt), refl), refl, ((refl, tt), (refl, tt))),
          (
            ((refl, tt), refl),
            refl,
            (
              (
                (
                  ((refl, tt), refl),
                  refl,
                  (
                    ((refl, tt), (refl, tt)),
                    ((refl, tt), (((refl, tt), ((refl, tt), ((refl, tt), ((refl, tt), (refl, tt))))), ((refl, tt), (refl, tt)))),
                  ),
                ),
                (
                  ((refl, tt), refl),
                  refl,
                  (
                    refl,
                    tt,
                  ),
                ),
              ),
              (
                (
                  (
                    ((refl, tt), refl),
                    refl,
                    (
                      (((refl, tt), refl), refl, (refl, tt)),
                      (
                        ((refl, tt), refl),
                        refl,
                        (
                          (
                            ((refl, tt), refl),
                            refl,
                            (
                              (refl, tt),
                              ((refl, tt), ((refl, tt), (refl, tt))),
                            ),
                          ),
                          (
                            (((refl, tt), refl), refl, ((refl, tt), ((refl, tt), ((refl, tt), (refl, tt))))),
                            (
                              (
                                ((refl, tt), refl),
                                refl,
                                ((refl, tt), ((refl, tt), ((refl, tt), (refl, tt)))),
                              ),
                              (
                                (((refl, tt), refl), refl, ((refl, tt), ((refl, tt), ((refl, tt), (refl, tt))))),
                                (
                                  (((refl, tt), refl), refl, ((refl, tt), ((refl, tt), ((refl, tt), (refl, tt))))),
                                  (
                                    (
                                      ((refl, tt), refl),
                                      refl,
                                      (
                                        (refl, tt),
                                        (
                                          (refl, tt),
                                          (
                                            (
                                              refl,
                                              tt,
                                            ),
                                            (refl, tt),
                                          ),
                                        ),
                                      ),
                                    ),
                                    (
                                      (((refl, tt), refl), refl, ((refl, tt), ((refl, tt), ((refl, tt), (refl, tt))))),
                                      (
                                        ((refl, tt), refl),
                                        refl,
                                        (
                                          (refl, tt),
                                          ((refl, tt), ((refl, tt), (refl, tt))),
                                        ),
                                      ),
                                    ),
                                  ),
                                ),
                              ),
                            ),
                          ),
                        ),
                      ),
                    ),
                  ),
                  ((((refl, tt), refl), refl, (refl, tt)), (((refl, tt), refl), refl, (refl, tt))),
                ),
                (
                  (
                    (
                      (
                        refl,
                        tt,
                      ),
                      refl,
                    ),
                    refl,
                    (((refl, tt), (refl, tt)), ((refl, tt), ((refl, tt), ((refl, tt), ((refl, tt), ((refl, tt), (refl, tt))))))),
                  ),
                  (
                    (
                      (refl, tt),
                      refl,
                    ),
                    refl,
                    (refl, tt),
                  ),
                ),
              ),
            ),
          ),
        ),
      ),
    ),
  );
  lines = (
    refl,
    (
      refl,
      (
        refl,
        (
          refl,
          (
            refl,
            (
              refl,
              (
                refl,
                (
                  refl,
                  (
                    refl,
                    (
                      refl,
                      (
                        refl,
                        (
                          refl,
                          (
                            refl,
                            (
                              refl,
                              (
                                refl,
                                (refl, (refl, (refl, (refl, (refl, (refl, (refl, (refl, tt)))))))),
                              ),
                            ),
                          ),
                        ),
                      ),
                    ),
                  ),
                ),
              ),
            ),
          ),
        ),
      ),
    ),
  );
}

rounds-tree : tree_of rounds_means ≡ some (Tree.dict (Tree.pair (bytes "schema") (Tree.str (bytes "passportsim/scenario@1")) (Tree.pair (bytes "name")
    (Tree.str (bytes "plain hunt on four")) (Tree.pair (bytes "tags") (Tree.seq (Tree.◌▸◌ (Tree.str (bytes "changes")) Tree.end)) (Tree.pair (bytes
    "fail_on") (Tree.seq (Tree.◌▸◌ (Tree.str (bytes "bell silent")) (Tree.◌▸◌ (Tree.str (bytes "bell late")) Tree.end))) (Tree.pair (bytes "steps")
    (Tree.seq (Tree.◌▸◌ (Tree.dict (Tree.pair (bytes "repeat") (Tree.dict (Tree.pair (bytes "times") (Tree.int (pos 2)) (Tree.pair (bytes "steps")
    (Tree.seq (Tree.◌▸◌ (Tree.dict (Tree.pair (bytes "row") (Tree.seq (Tree.◌▸◌ (Tree.int (pos 1)) (Tree.◌▸◌ (Tree.int (pos 2)) (Tree.◌▸◌ (Tree.int
    (pos 3)) (Tree.◌▸◌ (Tree.int (pos 4)) Tree.end))))) Tree.done)) (Tree.◌▸◌ (Tree.dict (Tree.pair (bytes "delay") (Tree.str (bytes "250ms"))
    Tree.done)) Tree.end))) Tree.done))) (Tree.pair (bytes "name") (Tree.str (bytes "rounds")) Tree.done))) (Tree.◌▸◌ (Tree.dict (Tree.pair (bytes
    "repeat") (Tree.dict (Tree.pair (bytes "times") (Tree.int (pos 3)) (Tree.pair (bytes "steps") (Tree.seq (Tree.◌▸◌ (Tree.dict (Tree.pair (bytes
    "row") (Tree.seq (Tree.◌▸◌ (Tree.int (pos 2)) (Tree.◌▸◌ (Tree.int (pos 1)) (Tree.◌▸◌ (Tree.int (pos 4)) (Tree.◌▸◌ (Tree.int (pos 3)) Tree.end)))))
    Tree.done)) (Tree.◌▸◌ (Tree.dict (Tree.pair (bytes "row") (Tree.seq (Tree.◌▸◌ (Tree.int (pos 2)) (Tree.◌▸◌ (Tree.int (pos 4)) (Tree.◌▸◌ (Tree.int
    (pos 1)) (Tree.◌▸◌ (Tree.int (pos 3)) Tree.end))))) Tree.done)) (Tree.◌▸◌ (Tree.dict (Tree.pair (bytes "row") (Tree.seq (Tree.◌▸◌ (Tree.int (pos
    4)) (Tree.◌▸◌ (Tree.int (pos 2)) (Tree.◌▸◌ (Tree.int (pos 3)) (Tree.◌▸◌ (Tree.int (pos 1)) Tree.end))))) Tree.done)) (Tree.◌▸◌ (Tree.dict
    (Tree.pair (bytes "row") (Tree.seq (Tree.◌▸◌ (Tree.int (pos 4)) (Tree.◌▸◌ (Tree.int (pos 3)) (Tree.◌▸◌ (Tree.int (pos 2)) (Tree.◌▸◌ (Tree.int (pos
    1)) Tree.end))))) Tree.done)) (Tree.◌▸◌ (Tree.dict (Tree.pair (bytes "row") (Tree.seq (Tree.◌▸◌ (Tree.int (pos 3)) (Tree.◌▸◌ (Tree.int (pos 4))
    (Tree.◌▸◌ (Tree.int (pos 1)) (Tree.◌▸◌ (Tree.int (pos 2)) Tree.end))))) Tree.done)) (Tree.◌▸◌ (Tree.dict (Tree.pair (bytes "row") (Tree.seq
    (Tree.◌▸◌ (Tree.int (pos 3)) (Tree.◌▸◌ (Tree.int (pos 1)) (Tree.◌▸◌ (Tree.int (pos 4)) (Tree.◌▸◌ (Tree.int (pos 2)) Tree.end))))) Tree.done))
    (Tree.◌▸◌ (Tree.dict (Tree.pair (bytes "row") (Tree.seq (Tree.◌▸◌ (Tree.int (pos 1)) (Tree.◌▸◌ (Tree.int (pos 3)) (Tree.◌▸◌ (Tree.int (pos 2))
    (Tree.◌▸◌ (Tree.int (pos 4)) Tree.end))))) Tree.done)) (Tree.◌▸◌ (Tree.dict (Tree.pair (bytes "row") (Tree.seq (Tree.◌▸◌ (Tree.int (pos 1))
    (Tree.◌▸◌ (Tree.int (pos 2)) (Tree.◌▸◌ (Tree.int (pos 3)) (Tree.◌▸◌ (Tree.int (pos 4)) Tree.end))))) Tree.done)) Tree.end))))))))) Tree.done)))
    (Tree.pair (bytes "name") (Tree.str (bytes "the hunt")) (Tree.pair (bytes "id") (Tree.str (bytes "hunt")) Tree.done)))) (Tree.◌▸◌ (Tree.dict
    (Tree.pair (bytes "repeat") (Tree.dict (Tree.pair (bytes "times") (Tree.int (pos 2)) (Tree.pair (bytes "steps") (Tree.seq (Tree.◌▸◌ (Tree.dict
    (Tree.pair (bytes "row") (Tree.seq (Tree.◌▸◌ (Tree.int (pos 1)) (Tree.◌▸◌ (Tree.int (pos 2)) (Tree.◌▸◌ (Tree.int (pos 3)) (Tree.◌▸◌ (Tree.int (pos
    4)) Tree.end))))) Tree.done)) Tree.end)) Tree.done))) (Tree.pair (bytes "name") (Tree.str (bytes "rounds again")) Tree.done))) Tree.end))))
    Tree.done))))))
unfolding All-open
rounds-tree = refl
