-- examples/noon.yaml, the noon strike: it is YAML, and document 01 keeps it. The terms are written by compare/grammar. Assumes nothing.
use Rattle.std.proofs.Common.{◌≡◌, refl, ℕ, arith, List, [], ◌∷◌, take, drop, pos}
use Rattle.std.proofs.Math.Option.{Option, some}
use Rattle.refusal.specs.Base.{bytes}
use Rattle.item.specs.Tree as Tree
use Rattle.yaml.specs.Scalars.{flow_out, flow_in}
use Rattle.yaml.specs.Represent.{Rep, int, str, seq, map, end, ◌▸◌, done, pair, tree_of}
use Rattle.yaml.specs.Core.{to_decimal, to_str}
use Rattle.yaml.specs.Flow.{f_plain, f_seq, f_map, s_last, s_more, p_value}
use Rattle.yaml.specs.Flow as F
use Rattle.yaml.specs.Rows.{Row, node, note, lf, c_end, c_more}
use Rattle.yaml.specs.Block.{key, b_seq, b_map, i_last, i_more, i_map, e_flow, e_block, Document, d_one, Stream}
use Rattle.yaml.specs.Block as B
use Rattle.yaml.specs.Kept.{Kept}
use Rattle.yaml.proofs.Plains.{is_plain_lem, All-open}

noon_text : List ℕ
noon_text = (bytes
    "# Every day at noon: the quarter tune, a short rest, then the hour on the great bell.\nschema: passportsim/scenario@1\nname: noon\ndescription: the quarter tune and twelve strokes\ntags: [hour, daily]\ndefaults: {timeout: 90s}\nsteps:\n  - tune: four quarters\n    id: quarters\n  - delay: 4s\n  - strike: {bell: great, strokes: 12, every: 3s}\n    name: the hour\n    id: hour\n")

noon_rows : List Row
noon_rows = (note (bytes "# Every day at noon: the quarter tune, a short rest, then the hour on the great bell.") lf) ∷ (node 0 (bytes
    "schema: passportsim/scenario@1") [] lf) ∷ (node 0 (bytes "name: noon") [] lf) ∷ (node 0 (bytes
    "description: the quarter tune and twelve strokes") [] lf) ∷ (node 0 (bytes "tags: [hour, daily]") [] lf) ∷ (node 0 (bytes
    "defaults: {timeout: 90s}") [] lf) ∷ (node 0 (bytes "steps:") [] lf) ∷ (node 2 (bytes "- tune: four quarters") [] lf) ∷ (node 4 (bytes
    "id: quarters") [] lf) ∷ (node 2 (bytes "- delay: 4s") [] lf) ∷ (node 2 (bytes "- strike: {bell: great, strokes: 12, every: 3s}") [] lf) ∷ (node 4
    (bytes "name: the hour") [] lf) ∷ (node 4 (bytes "id: hour") [] lf) ∷ []

-- so many of them from a place on
noon_from : ℕ → ℕ → List Row
noon_from a n = take n (drop a noon_rows)

abbrev noon_means : Option Rep
noon_means = some (map (pair (str (bytes "schema")) (str (bytes "passportsim/scenario@1")) (pair (str (bytes "name")) (str (bytes "noon")) (pair (str
    (bytes "description")) (str (bytes "the quarter tune and twelve strokes")) (pair (str (bytes "tags")) (seq ((str (bytes "hour")) ▸ ((str (bytes
    "daily")) ▸ end))) (pair (str (bytes "defaults")) (map (pair (str (bytes "timeout")) (str (bytes "90s")) done)) (pair (str (bytes "steps")) (seq
    ((map (pair (str (bytes "tune")) (str (bytes "four quarters")) (pair (str (bytes "id")) (str (bytes "quarters")) done))) ▸ ((map (pair (str (bytes
    "delay")) (str (bytes "4s")) done)) ▸ ((map (pair (str (bytes "strike")) (map (pair (str (bytes "bell")) (str (bytes "great")) (pair (str (bytes
    "strokes")) (int (pos 12)) (pair (str (bytes "every")) (str (bytes "3s")) done)))) (pair (str (bytes "name")) (str (bytes "the hour")) (pair (str
    (bytes "id")) (str (bytes "hour")) done)))) ▸ end)))) done)))))))

noon-is : Document noon_rows noon_means
unfolding noon_rows noon_from All-open
noon-is = (d_one {cs = (noon_from 0 1)} {xs = (noon_from 1 12)} {m = 0} (c_more tt c_end) (b_map (B.m_more {xs = (noon_from 1 1)} {ys = (noon_from 2
    11)} (e_flow [] (key [] (f_plain (is_plain_lem flow_out (bytes "schema") tt) (to_str tt)) tt refl tt) tt (f_plain (is_plain_lem flow_out (bytes
    "passportsim/scenario@1") tt) (to_str tt)) tt c_end refl) (B.m_more {xs = (noon_from 2 1)} {ys = (noon_from 3 10)} (e_flow [] (key [] (f_plain
    (is_plain_lem flow_out (bytes "name") tt) (to_str tt)) tt refl tt) tt (f_plain (is_plain_lem flow_out (bytes "noon") tt) (to_str tt)) tt c_end refl)
    (B.m_more {xs = (noon_from 3 1)} {ys = (noon_from 4 9)} (e_flow [] (key [] (f_plain (is_plain_lem flow_out (bytes "description") tt) (to_str tt)) tt
    refl tt) tt (f_plain (is_plain_lem flow_out (bytes "the quarter tune and twelve strokes") tt) (to_str tt)) tt c_end refl) (B.m_more {xs = (noon_from 4
    1)} {ys = (noon_from 5 8)} (e_flow [] (key [] (f_plain (is_plain_lem flow_out (bytes "tags") tt) (to_str tt)) tt refl tt) tt (f_seq 0 (s_more 0 1
    (f_plain (is_plain_lem flow_in (bytes "hour") tt) (to_str tt)) (s_last 0 (f_plain (is_plain_lem flow_in (bytes "daily") tt) (to_str tt)) refl) refl) refl)
    tt c_end refl) (B.m_more {xs = (noon_from 5 1)} {ys = (noon_from 6 7)} (e_flow [] (key [] (f_plain (is_plain_lem flow_out (bytes "defaults") tt)
    (to_str tt)) tt refl tt) tt (f_map 0 (F.m_last 0 (p_value 0 0 (f_plain (is_plain_lem flow_in (bytes "timeout") tt) (to_str tt)) (f_plain (is_plain_lem
    flow_in (bytes "90s") tt) (to_str tt)) refl) refl) refl) tt c_end refl) (B.m_last (e_block {n = 0} {m = 2} {cs = []} {xs = (noon_from 7 6)} (key
    [] (f_plain (is_plain_lem flow_out (bytes "steps") tt) (to_str tt)) tt refl tt) tt c_end (omega arith) (b_seq (i_more {xs = (noon_from 7 2)} {ys =
    (noon_from 9 4)} (i_map {t = (bytes "tune: four quarters")} 0 refl (B.m_more {xs = ((node 4 (bytes "tune: four quarters") [] lf) ∷ [])} {ys =
    (noon_from 8 1)} (e_flow [] (key [] (f_plain (is_plain_lem flow_out (bytes "tune") tt) (to_str tt)) tt refl tt) tt (f_plain (is_plain_lem flow_out (bytes
    "four quarters") tt) (to_str tt)) tt c_end refl) (B.m_last (e_flow [] (key [] (f_plain (is_plain_lem flow_out (bytes "id") tt) (to_str tt)) tt refl
    tt) tt (f_plain (is_plain_lem flow_out (bytes "quarters") tt) (to_str tt)) tt c_end refl)) refl) refl) (i_more {xs = (noon_from 9 1)} {ys = (noon_from
    10 3)} (i_map {t = (bytes "delay: 4s")} 0 refl (B.m_last (e_flow [] (key [] (f_plain (is_plain_lem flow_out (bytes "delay") tt) (to_str tt)) tt refl
    tt) tt (f_plain (is_plain_lem flow_out (bytes "4s") tt) (to_str tt)) tt c_end refl)) refl) (i_last (i_map {t = (bytes
    "strike: {bell: great, strokes: 12, every: 3s}")} 0 refl (B.m_more {xs = ((node 4 (bytes "strike: {bell: great, strokes: 12, every: 3s}") [] lf) ∷
    [])} {ys = (noon_from 11 2)} (e_flow [] (key [] (f_plain (is_plain_lem flow_out (bytes "strike") tt) (to_str tt)) tt refl tt) tt (f_map 0 (F.m_more 0
    1 (p_value 0 0 (f_plain (is_plain_lem flow_in (bytes "bell") tt) (to_str tt)) (f_plain (is_plain_lem flow_in (bytes "great") tt) (to_str tt)) refl)
    (F.m_more 0 1 (p_value 0 0 (f_plain (is_plain_lem flow_in (bytes "strokes") tt) (to_str tt)) (f_plain (is_plain_lem flow_in (bytes "12") tt) (to_decimal
    tt)) refl) (F.m_last 0 (p_value 0 0 (f_plain (is_plain_lem flow_in (bytes "every") tt) (to_str tt)) (f_plain (is_plain_lem flow_in (bytes "3s") tt)
    (to_str tt)) refl) refl) refl) refl) refl) tt c_end refl) (B.m_more {xs = (noon_from 11 1)} {ys = (noon_from 12 1)} (e_flow [] (key [] (f_plain
    (is_plain_lem flow_out (bytes "name") tt) (to_str tt)) tt refl tt) tt (f_plain (is_plain_lem flow_out (bytes "the hour") tt) (to_str tt)) tt c_end refl)
    (B.m_last (e_flow [] (key [] (f_plain (is_plain_lem flow_out (bytes "id") tt) (to_str tt)) tt refl tt) tt (f_plain (is_plain_lem flow_out (bytes "hour")
    tt) (to_str tt)) tt c_end refl)) refl) refl) refl)) refl) refl)) refl)) refl) refl) refl) refl) refl)) refl)

noon : Stream noon_text noon_means
unfolding noon_text noon_rows All-open
noon = record {
  rows = noon_rows;
  is = refl;
  ends = tt;
  bare = tt;
  printable = record { points = noon_text; is = refl; are = tt };
  document = noon-is;
}

noon-kept : Kept noon
unfolding noon noon_rows noon-is noon_from All-open
noon-kept = record {
  document = (
    (((refl, tt), refl), refl, (refl, tt)),
    (
      (((refl, tt), refl), refl, (refl, tt)),
      (
        (
          ((refl, tt), refl),
          refl,
          (
            refl,
            tt,
          ),
        ),
        (
          (((refl, tt), refl), refl, ((refl, tt), (refl, tt))),
          (
            (((refl, tt), refl), refl, ((refl, tt), (refl, tt))),
            (
              ((refl, tt), refl),
              refl,
              (
                ((((refl, tt), refl), refl, (refl, tt)), (((refl, tt), refl), refl, (refl, tt))),
                (
                  (((refl, tt), refl), refl, (refl, tt)),
                  (
                    (
                      ((refl, tt), refl),
                      refl,
                      (((refl, tt), (refl, tt)), (((refl, tt), (refl, tt)), ((refl, tt), (refl, tt)))),
                    ),
                    (
                      (((refl, tt), refl), refl, (refl, tt)),
                      (
                        (
                          (refl, tt),
                          refl,
                        ),
                        refl,
                        (refl, tt),
                      ),
                    ),
                  ),
                ),
              ),
            ),
          ),
        ),
      ),
    ),
  );
  lines = (
    refl,
    (
      refl,
      (
        refl,
        (
          refl,
          (
            refl,
            (
              refl,
              (
                refl,
                (
                  refl,
                  (
                    refl,
                    (
                      refl,
                      (
                        refl,
                        (
                          refl,
                          (
                            refl,
                            tt,
                          ),
                        ),
                      ),
                    ),
                  ),
                ),
              ),
            ),
          ),
        ),
      ),
    ),
  );
}

noon-tree : tree_of noon_means ≡ some (Tree.dict (Tree.pair (bytes "schema") (Tree.str (bytes "passportsim/scenario@1")) (Tree.pair (bytes "name")
    (Tree.str (bytes "noon")) (Tree.pair (bytes "description") (Tree.str (bytes "the quarter tune and twelve strokes")) (Tree.pair (bytes "tags")
    (Tree.seq (Tree.◌▸◌ (Tree.str (bytes "hour")) (Tree.◌▸◌ (Tree.str (bytes "daily")) Tree.end))) (Tree.pair (bytes "defaults") (Tree.dict (Tree.pair
    (bytes "timeout") (Tree.str (bytes "90s")) Tree.done)) (Tree.pair (bytes "steps") (Tree.seq (Tree.◌▸◌ (Tree.dict (Tree.pair (bytes "tune")
    (Tree.str (bytes "four quarters")) (Tree.pair (bytes "id") (Tree.str (bytes "quarters")) Tree.done))) (Tree.◌▸◌ (Tree.dict (Tree.pair (bytes
    "delay") (Tree.str (bytes "4s")) Tree.done)) (Tree.◌▸◌ (Tree.dict (Tree.pair (bytes "strike") (Tree.dict (Tree.pair (bytes "bell") (Tree.str
    (bytes "great")) (Tree.pair (bytes "strokes") (Tree.int (pos 12)) (Tree.pair (bytes "every") (Tree.str (bytes "3s")) Tree.done)))) (Tree.pair
    (bytes "name") (Tree.str (bytes "the hour")) (Tree.pair (bytes "id") (Tree.str (bytes "hour")) Tree.done)))) Tree.end)))) Tree.done)))))))
unfolding All-open
noon-tree = refl
