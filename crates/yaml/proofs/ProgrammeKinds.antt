-- examples/kinds.yaml, each kind of value, each way of writing it: it is YAML, and document 01 keeps it. The terms are written by compare/grammar. Assumes nothing.
use Rattle.std.proofs.Common.{◌≡◌, refl, ℕ, arith, List, [], ◌∷◌, true, false, take, drop, pos, negsuc}
use Rattle.std.proofs.Math.Option.{Option, some}
use Rattle.refusal.specs.Base.{bytes}
use Rattle.item.specs.Tree as Tree
use Rattle.yaml.specs.Scalars.{flow_out, flow_in, d_end, d_char, d_escaped, esc_t, esc_quote, s_end, s_char, s_twice}
use Rattle.yaml.specs.Represent.{Rep, null, bool, int, str, seq, map, end, ◌▸◌, done, pair, tree_of}
use Rattle.yaml.specs.Core.{to_null, to_true, to_false, to_decimal, to_str}
use Rattle.yaml.specs.Flow.{f_plain, f_quoted, f_seq, f_map, q_double, q_single, s_last, s_more, p_value}
use Rattle.yaml.specs.Flow as F
use Rattle.yaml.specs.Rows.{Row, node, note, body, lf, c_end, c_more}
use Rattle.yaml.specs.Block.{strip, clip, l_none, l_text, l_last, l_next, t_none, l_lines, key, b_seq, b_map, i_last, i_more, i_flow, i_block, i_map, e_flow, e_null, e_block, e_literal, Document, d_one, Stream}
use Rattle.yaml.specs.Block as B
use Rattle.yaml.specs.Kept.{Kept}
use Rattle.yaml.proofs.Plains.{is_plain_lem, All-open}

kinds_text : List ℕ
kinds_text = (bytes
    "# Each kind of value once or more, in each way of writing it.\nschema: passportsim/scenario@1\nname: kinds of values\ndescription: |\n  A literal keeps its lines.\n    Deeper lines keep their spaces.\n  # This is no comment.\nimage: \"quoted, with a tab\\tand a \\\"quote\\\"\"\ntags: [plain, 'it''s quoted', 7, true]\nsetup:\n  nothing: ~\n  also nothing:\n  yes or no: false\n  whole number: -12\n  text: Bourdon\n  no number: \"12\"\n  list: [1, two, [3, 4], {five: 5}]\n  longer list:\n    - great\n    - small\n    -\n      - inner\n      - list\n  deeper:\n    key: value\ndefaults:\n  timeout: 30s\n  wall_budget: 5000\nfail_on: [bell silent]\nsteps:\n  - strike: 5\n  - strike:\n  - strike: true\n  - strike: great\n  - strike: [great, small]\n  - strike: {bell: great}\n  - say: |-\n      Noon.\n    name: all fields\n    id: last\n    timeout: 10s\n    continue_on_error: true\n    expect: {heard: true}\n")

kinds_rows : List Row
kinds_rows = (note (bytes "# Each kind of value once or more, in each way of writing it.") lf) ∷ (node 0 (bytes "schema: passportsim/scenario@1") []
    lf) ∷ (node 0 (bytes "name: kinds of values") [] lf) ∷ (node 0 (bytes "description: |") [] lf) ∷ (body 2 (bytes "A literal keeps its lines.") lf)
    ∷ (body 2 (bytes "  Deeper lines keep their spaces.") lf) ∷ (body 2 (bytes "# This is no comment.") lf) ∷ (node 0 (bytes
    "image: \"quoted, with a tab\\tand a \\\"quote\\\"\"") [] lf) ∷ (node 0 (bytes "tags: [plain, 'it''s quoted', 7, true]") [] lf) ∷ (node 0 (bytes
    "setup:") [] lf) ∷ (node 2 (bytes "nothing: ~") [] lf) ∷ (node 2 (bytes "also nothing:") [] lf) ∷ (node 2 (bytes "yes or no: false") [] lf) ∷
    (node 2 (bytes "whole number: -12") [] lf) ∷ (node 2 (bytes "text: Bourdon") [] lf) ∷ (node 2 (bytes "no number: \"12\"") [] lf) ∷ (node 2 (bytes
    "list: [1, two, [3, 4], {five: 5}]") [] lf) ∷ (node 2 (bytes "longer list:") [] lf) ∷ (node 4 (bytes "- great") [] lf) ∷ (node 4 (bytes "- small")
    [] lf) ∷ (node 4 (bytes "-") [] lf) ∷ (node 6 (bytes "- inner") [] lf) ∷ (node 6 (bytes "- list") [] lf) ∷ (node 2 (bytes "deeper:") [] lf) ∷
    (node 4 (bytes "key: value") [] lf) ∷ (node 0 (bytes "defaults:") [] lf) ∷ (node 2 (bytes "timeout: 30s") [] lf) ∷ (node 2 (bytes
    "wall_budget: 5000") [] lf) ∷ (node 0 (bytes "fail_on: [bell silent]") [] lf) ∷ (node 0 (bytes "steps:") [] lf) ∷ (node 2 (bytes "- strike: 5") []
    lf) ∷ (node 2 (bytes "- strike:") [] lf) ∷ (node 2 (bytes "- strike: true") [] lf) ∷ (node 2 (bytes "- strike: great") [] lf) ∷ (node 2 (bytes
    "- strike: [great, small]") [] lf) ∷ (node 2 (bytes "- strike: {bell: great}") [] lf) ∷ (node 2 (bytes "- say: |-") [] lf) ∷ (body 6 (bytes
    "Noon.") lf) ∷ (node 4 (bytes "name: all fields") [] lf) ∷ (node 4 (bytes "id: last") [] lf) ∷ (node 4 (bytes "timeout: 10s") [] lf) ∷ (node 4
    (bytes "continue_on_error: true") [] lf) ∷ (node 4 (bytes "expect: {heard: true}") [] lf) ∷ []

-- so many of them from a place on
kinds_from : ℕ → ℕ → List Row
kinds_from a n = take n (drop a kinds_rows)

abbrev kinds_means : Option Rep
kinds_means = some (map (pair (str (bytes "schema")) (str (bytes "passportsim/scenario@1")) (pair (str (bytes "name")) (str (bytes "kinds of values"))
    (pair (str (bytes "description")) (str (bytes "A literal keeps its lines.\n  Deeper lines keep their spaces.\n# This is no comment.\n")) (pair
    (str (bytes "image")) (str (bytes "quoted, with a tab\tand a \"quote\"")) (pair (str (bytes "tags")) (seq ((str (bytes "plain")) ▸ ((str (bytes
    "it's quoted")) ▸ ((int (pos 7)) ▸ ((bool true) ▸ end))))) (pair (str (bytes "setup")) (map (pair (str (bytes "nothing")) null (pair (str (bytes
    "also nothing")) null (pair (str (bytes "yes or no")) (bool false) (pair (str (bytes "whole number")) (int (negsuc 11)) (pair (str (bytes "text"))
    (str (bytes "Bourdon")) (pair (str (bytes "no number")) (str (bytes "12")) (pair (str (bytes "list")) (seq ((int (pos 1)) ▸ ((str (bytes "two")) ▸
    ((seq ((int (pos 3)) ▸ ((int (pos 4)) ▸ end))) ▸ ((map (pair (str (bytes "five")) (int (pos 5)) done)) ▸ end))))) (pair (str (bytes
    "longer list")) (seq ((str (bytes "great")) ▸ ((str (bytes "small")) ▸ ((seq ((str (bytes "inner")) ▸ ((str (bytes "list")) ▸ end))) ▸ end))))
    (pair (str (bytes "deeper")) (map (pair (str (bytes "key")) (str (bytes "value")) done)) done)))))))))) (pair (str (bytes "defaults")) (map (pair
    (str (bytes "timeout")) (str (bytes "30s")) (pair (str (bytes "wall_budget")) (int (pos 5000)) done))) (pair (str (bytes "fail_on")) (seq ((str
    (bytes "bell silent")) ▸ end)) (pair (str (bytes "steps")) (seq ((map (pair (str (bytes "strike")) (int (pos 5)) done)) ▸ ((map (pair (str (bytes
    "strike")) null done)) ▸ ((map (pair (str (bytes "strike")) (bool true) done)) ▸ ((map (pair (str (bytes "strike")) (str (bytes "great")) done)) ▸
    ((map (pair (str (bytes "strike")) (seq ((str (bytes "great")) ▸ ((str (bytes "small")) ▸ end))) done)) ▸ ((map (pair (str (bytes "strike")) (map
    (pair (str (bytes "bell")) (str (bytes "great")) done)) done)) ▸ ((map (pair (str (bytes "say")) (str (bytes "Noon.")) (pair (str (bytes "name"))
    (str (bytes "all fields")) (pair (str (bytes "id")) (str (bytes "last")) (pair (str (bytes "timeout")) (str (bytes "10s")) (pair (str (bytes
    "continue_on_error")) (bool true) (pair (str (bytes "expect")) (map (pair (str (bytes "heard")) (bool true) done)) done))))))) ▸ end))))))))
    done))))))))))

kinds-is : Document kinds_rows kinds_means
unfolding kinds_rows kinds_from All-open
kinds-is = (d_one {cs = (kinds_from 0 1)} {xs = (kinds_from 1 42)} {m = 0} (c_more tt c_end) (b_map (B.m_more {xs = (kinds_from 1 1)} {ys =
    (kinds_from 2 41)} (e_flow [] (key [] (f_plain (is_plain_lem flow_out (bytes "schema") tt) (to_str tt)) tt refl tt) tt (f_plain (is_plain_lem flow_out
    (bytes "passportsim/scenario@1") tt) (to_str tt)) tt c_end refl) (B.m_more {xs = (kinds_from 2 1)} {ys = (kinds_from 3 40)} (e_flow [] (key []
    (f_plain (is_plain_lem flow_out (bytes "name") tt) (to_str tt)) tt refl tt) tt (f_plain (is_plain_lem flow_out (bytes "kinds of values") tt) (to_str tt))
    tt c_end refl) (B.m_more {xs = (kinds_from 3 4)} {ys = (kinds_from 7 36)} (e_literal {n = 0} [] clip (key [] (f_plain (is_plain_lem flow_out (bytes
    "description") tt) (to_str tt)) tt refl tt) tt tt (l_lines {xs = (kinds_from 4 3)} {ys = []} {m = 2} (omega arith) (l_next {xs = (kinds_from 4 1)}
    {ys = (kinds_from 5 2)} (l_text {bs = []} (bytes "A literal keeps its lines.") l_none tt tt refl refl) (l_next {xs = (kinds_from 5 1)} {ys =
    (kinds_from 6 1)} (l_text {bs = []} (bytes "  Deeper lines keep their spaces.") l_none tt tt refl refl) (l_last (l_text {bs = []} (bytes
    "# This is no comment.") l_none tt tt refl refl)) refl refl) refl refl) tt t_none refl refl) refl) (B.m_more {xs = (kinds_from 7 1)} {ys =
    (kinds_from 8 35)} (e_flow [] (key [] (f_plain (is_plain_lem flow_out (bytes "image") tt) (to_str tt)) tt refl tt) tt (f_quoted (q_double {t = (bytes
    "quoted, with a tab\\tand a \\\"quote\\\"")} {v = (bytes "quoted, with a tab\tand a \"quote\"")} (d_char tt (d_char tt (d_char tt (d_char tt
    (d_char tt (d_char tt (d_char tt (d_char tt (d_char tt (d_char tt (d_char tt (d_char tt (d_char tt (d_char tt (d_char tt (d_char tt (d_char tt
    (d_char tt (d_escaped esc_t (d_char tt (d_char tt (d_char tt (d_char tt (d_char tt (d_char tt (d_escaped esc_quote (d_char tt (d_char tt (d_char
    tt (d_char tt (d_char tt (d_escaped esc_quote d_end)))))))))))))))))))))))))))))))) refl)) tt c_end refl) (B.m_more {xs = (kinds_from 8 1)} {ys =
    (kinds_from 9 34)} (e_flow [] (key [] (f_plain (is_plain_lem flow_out (bytes "tags") tt) (to_str tt)) tt refl tt) tt (f_seq 0 (s_more 0 1 (f_plain
    (is_plain_lem flow_in (bytes "plain") tt) (to_str tt)) (s_more 0 1 (f_quoted (q_single {t = (bytes "it''s quoted")} {v = (bytes "it's quoted")}
    (s_char tt (s_char tt (s_twice (s_char tt (s_char tt (s_char tt (s_char tt (s_char tt (s_char tt (s_char tt (s_char tt s_end))))))))))) refl))
    (s_more 0 1 (f_plain (is_plain_lem flow_in (bytes "7") tt) (to_decimal tt)) (s_last 0 (f_plain (is_plain_lem flow_in (bytes "true") tt) (to_true tt))
    refl) refl) refl) refl) refl) tt c_end refl) (B.m_more {xs = (kinds_from 9 16)} {ys = (kinds_from 25 18)} (e_block {n = 0} {m = 2} {cs = []} {xs =
    (kinds_from 10 15)} (key [] (f_plain (is_plain_lem flow_out (bytes "setup") tt) (to_str tt)) tt refl tt) tt c_end (omega arith) (b_map (B.m_more {xs =
    (kinds_from 10 1)} {ys = (kinds_from 11 14)} (e_flow [] (key [] (f_plain (is_plain_lem flow_out (bytes "nothing") tt) (to_str tt)) tt refl tt) tt
    (f_plain (is_plain_lem flow_out (bytes "~") tt) (to_null tt)) tt c_end refl) (B.m_more {xs = (kinds_from 11 1)} {ys = (kinds_from 12 13)} (e_null (key
    [] (f_plain (is_plain_lem flow_out (bytes "also nothing") tt) (to_str tt)) tt refl tt) tt c_end refl) (B.m_more {xs = (kinds_from 12 1)} {ys =
    (kinds_from 13 12)} (e_flow [] (key [] (f_plain (is_plain_lem flow_out (bytes "yes or no") tt) (to_str tt)) tt refl tt) tt (f_plain (is_plain_lem flow_out
    (bytes "false") tt) (to_false tt)) tt c_end refl) (B.m_more {xs = (kinds_from 13 1)} {ys = (kinds_from 14 11)} (e_flow [] (key [] (f_plain
    (is_plain_lem flow_out (bytes "whole number") tt) (to_str tt)) tt refl tt) tt (f_plain (is_plain_lem flow_out (bytes "-12") tt) (to_decimal tt)) tt c_end
    refl) (B.m_more {xs = (kinds_from 14 1)} {ys = (kinds_from 15 10)} (e_flow [] (key [] (f_plain (is_plain_lem flow_out (bytes "text") tt) (to_str tt))
    tt refl tt) tt (f_plain (is_plain_lem flow_out (bytes "Bourdon") tt) (to_str tt)) tt c_end refl) (B.m_more {xs = (kinds_from 15 1)} {ys = (kinds_from
    16 9)} (e_flow [] (key [] (f_plain (is_plain_lem flow_out (bytes "no number") tt) (to_str tt)) tt refl tt) tt (f_quoted (q_double {t = (bytes "12")}
    {v = (bytes "12")} (d_char tt (d_char tt d_end)) refl)) tt c_end refl) (B.m_more {xs = (kinds_from 16 1)} {ys = (kinds_from 17 8)} (e_flow [] (key
    [] (f_plain (is_plain_lem flow_out (bytes "list") tt) (to_str tt)) tt refl tt) tt (f_seq 0 (s_more 0 1 (f_plain (is_plain_lem flow_in (bytes "1") tt)
    (to_decimal tt)) (s_more 0 1 (f_plain (is_plain_lem flow_in (bytes "two") tt) (to_str tt)) (s_more 0 1 (f_seq 0 (s_more 0 1 (f_plain (is_plain_lem flow_in
    (bytes "3") tt) (to_decimal tt)) (s_last 0 (f_plain (is_plain_lem flow_in (bytes "4") tt) (to_decimal tt)) refl) refl) refl) (s_last 0 (f_map 0
    (F.m_last 0 (p_value 0 0 (f_plain (is_plain_lem flow_in (bytes "five") tt) (to_str tt)) (f_plain (is_plain_lem flow_in (bytes "5") tt) (to_decimal tt))
    refl) refl) refl) refl) refl) refl) refl) refl) tt c_end refl) (B.m_more {xs = (kinds_from 17 6)} {ys = (kinds_from 23 2)} (e_block {n = 2} {m =
    4} {cs = []} {xs = (kinds_from 18 5)} (key [] (f_plain (is_plain_lem flow_out (bytes "longer list") tt) (to_str tt)) tt refl tt) tt c_end (omega
    arith) (b_seq (i_more {xs = (kinds_from 18 1)} {ys = (kinds_from 19 4)} (i_flow [] tt (f_plain (is_plain_lem flow_out (bytes "great") tt) (to_str tt))
    tt c_end refl) (i_more {xs = (kinds_from 19 1)} {ys = (kinds_from 20 3)} (i_flow [] tt (f_plain (is_plain_lem flow_out (bytes "small") tt) (to_str
    tt)) tt c_end refl) (i_last (i_block {m = 4} {k = 6} {cs = []} {xs = (kinds_from 21 2)} tt c_end (omega arith) (b_seq (i_more {xs = (kinds_from 21
    1)} {ys = (kinds_from 22 1)} (i_flow [] tt (f_plain (is_plain_lem flow_out (bytes "inner") tt) (to_str tt)) tt c_end refl) (i_last (i_flow [] tt
    (f_plain (is_plain_lem flow_out (bytes "list") tt) (to_str tt)) tt c_end refl)) refl)) refl)) refl) refl)) refl) (B.m_last (e_block {n = 2} {m = 4}
    {cs = []} {xs = (kinds_from 24 1)} (key [] (f_plain (is_plain_lem flow_out (bytes "deeper") tt) (to_str tt)) tt refl tt) tt c_end (omega arith) (b_map
    (B.m_last (e_flow [] (key [] (f_plain (is_plain_lem flow_out (bytes "key") tt) (to_str tt)) tt refl tt) tt (f_plain (is_plain_lem flow_out (bytes "value")
    tt) (to_str tt)) tt c_end refl))) refl)) refl) refl) refl) refl) refl) refl) refl) refl)) refl) (B.m_more {xs = (kinds_from 25 3)} {ys =
    (kinds_from 28 15)} (e_block {n = 0} {m = 2} {cs = []} {xs = (kinds_from 26 2)} (key [] (f_plain (is_plain_lem flow_out (bytes "defaults") tt) (to_str
    tt)) tt refl tt) tt c_end (omega arith) (b_map (B.m_more {xs = (kinds_from 26 1)} {ys = (kinds_from 27 1)} (e_flow [] (key [] (f_plain (is_plain_lem
    flow_out (bytes "timeout") tt) (to_str tt)) tt refl tt) tt (f_plain (is_plain_lem flow_out (bytes "30s") tt) (to_str tt)) tt c_end refl) (B.m_last
    (e_flow [] (key [] (f_plain (is_plain_lem flow_out (bytes "wall_budget") tt) (to_str tt)) tt refl tt) tt (f_plain (is_plain_lem flow_out (bytes "5000")
    tt) (to_decimal tt)) tt c_end refl)) refl)) refl) (B.m_more {xs = (kinds_from 28 1)} {ys = (kinds_from 29 14)} (e_flow [] (key [] (f_plain
    (is_plain_lem flow_out (bytes "fail_on") tt) (to_str tt)) tt refl tt) tt (f_seq 0 (s_last 0 (f_plain (is_plain_lem flow_in (bytes "bell silent") tt)
    (to_str tt)) refl) refl) tt c_end refl) (B.m_last (e_block {n = 0} {m = 2} {cs = []} {xs = (kinds_from 30 13)} (key [] (f_plain (is_plain_lem flow_out
    (bytes "steps") tt) (to_str tt)) tt refl tt) tt c_end (omega arith) (b_seq (i_more {xs = (kinds_from 30 1)} {ys = (kinds_from 31 12)} (i_map {t =
    (bytes "strike: 5")} 0 refl (B.m_last (e_flow [] (key [] (f_plain (is_plain_lem flow_out (bytes "strike") tt) (to_str tt)) tt refl tt) tt (f_plain
    (is_plain_lem flow_out (bytes "5") tt) (to_decimal tt)) tt c_end refl)) refl) (i_more {xs = (kinds_from 31 1)} {ys = (kinds_from 32 11)} (i_map {t =
    (bytes "strike:")} 0 refl (B.m_last (e_null (key [] (f_plain (is_plain_lem flow_out (bytes "strike") tt) (to_str tt)) tt refl tt) tt c_end refl))
    refl) (i_more {xs = (kinds_from 32 1)} {ys = (kinds_from 33 10)} (i_map {t = (bytes "strike: true")} 0 refl (B.m_last (e_flow [] (key [] (f_plain
    (is_plain_lem flow_out (bytes "strike") tt) (to_str tt)) tt refl tt) tt (f_plain (is_plain_lem flow_out (bytes "true") tt) (to_true tt)) tt c_end refl))
    refl) (i_more {xs = (kinds_from 33 1)} {ys = (kinds_from 34 9)} (i_map {t = (bytes "strike: great")} 0 refl (B.m_last (e_flow [] (key [] (f_plain
    (is_plain_lem flow_out (bytes "strike") tt) (to_str tt)) tt refl tt) tt (f_plain (is_plain_lem flow_out (bytes "great") tt) (to_str tt)) tt c_end refl))
    refl) (i_more {xs = (kinds_from 34 1)} {ys = (kinds_from 35 8)} (i_map {t = (bytes "strike: [great, small]")} 0 refl (B.m_last (e_flow [] (key []
    (f_plain (is_plain_lem flow_out (bytes "strike") tt) (to_str tt)) tt refl tt) tt (f_seq 0 (s_more 0 1 (f_plain (is_plain_lem flow_in (bytes "great") tt)
    (to_str tt)) (s_last 0 (f_plain (is_plain_lem flow_in (bytes "small") tt) (to_str tt)) refl) refl) refl) tt c_end refl)) refl) (i_more {xs =
    (kinds_from 35 1)} {ys = (kinds_from 36 7)} (i_map {t = (bytes "strike: {bell: great}")} 0 refl (B.m_last (e_flow [] (key [] (f_plain (is_plain_lem
    flow_out (bytes "strike") tt) (to_str tt)) tt refl tt) tt (f_map 0 (F.m_last 0 (p_value 0 0 (f_plain (is_plain_lem flow_in (bytes "bell") tt) (to_str
    tt)) (f_plain (is_plain_lem flow_in (bytes "great") tt) (to_str tt)) refl) refl) refl) tt c_end refl)) refl) (i_last (i_map {t = (bytes "say: |-")} 0
    refl (B.m_more {xs = ((node 4 (bytes "say: |-") [] lf) ∷ kinds_from 37 1)} {ys = (kinds_from 38 5)} (e_literal {n = 4} [] strip (key [] (f_plain
    (is_plain_lem flow_out (bytes "say") tt) (to_str tt)) tt refl tt) tt tt (l_lines {xs = (kinds_from 37 1)} {ys = []} {m = 6} (omega arith) (l_last
    (l_text {bs = []} (bytes "Noon.") l_none tt tt refl refl)) tt t_none refl refl) refl) (B.m_more {xs = (kinds_from 38 1)} {ys = (kinds_from 39 4)}
    (e_flow [] (key [] (f_plain (is_plain_lem flow_out (bytes "name") tt) (to_str tt)) tt refl tt) tt (f_plain (is_plain_lem flow_out (bytes "all fields") tt)
    (to_str tt)) tt c_end refl) (B.m_more {xs = (kinds_from 39 1)} {ys = (kinds_from 40 3)} (e_flow [] (key [] (f_plain (is_plain_lem flow_out (bytes
    "id") tt) (to_str tt)) tt refl tt) tt (f_plain (is_plain_lem flow_out (bytes "last") tt) (to_str tt)) tt c_end refl) (B.m_more {xs = (kinds_from 40
    1)} {ys = (kinds_from 41 2)} (e_flow [] (key [] (f_plain (is_plain_lem flow_out (bytes "timeout") tt) (to_str tt)) tt refl tt) tt (f_plain (is_plain_lem
    flow_out (bytes "10s") tt) (to_str tt)) tt c_end refl) (B.m_more {xs = (kinds_from 41 1)} {ys = (kinds_from 42 1)} (e_flow [] (key [] (f_plain
    (is_plain_lem flow_out (bytes "continue_on_error") tt) (to_str tt)) tt refl tt) tt (f_plain (is_plain_lem flow_out (bytes "true") tt) (to_true tt)) tt
    c_end refl) (B.m_last (e_flow [] (key [] (f_plain (is_plain_lem flow_out (bytes "expect") tt) (to_str tt)) tt refl tt) tt (f_map 0 (F.m_last 0
    (p_value 0 0 (f_plain (is_plain_lem flow_in (bytes "heard") tt) (to_str tt)) (f_plain (is_plain_lem flow_in (bytes "true") tt) (to_true tt)) refl) refl)
    refl) tt c_end refl)) refl) refl) refl) refl) refl) refl)) refl) refl) refl) refl) refl) refl)) refl)) refl) refl) refl) refl) refl) refl) refl)
    refl)) refl)

kinds : Stream kinds_text kinds_means
unfolding kinds_text kinds_rows All-open
kinds = record {
  rows = kinds_rows;
  is = refl;
  ends = tt;
  bare = tt;
  printable = record { points = kinds_text; is = refl; are = tt };
  document =
      kinds-is;
}

kinds_kept : Kept kinds
unfolding kinds kinds_rows kinds-is kinds_from All-open
kinds_kept = record {
  document = (
    (((refl, tt), refl), refl, (refl, tt)),
    (
      (((refl, tt), refl), refl, (refl, tt)),
      (
        (((refl, tt), refl), refl, tt),
        (
          (((refl, tt), refl), refl, tt),
          (
            (((refl, tt), refl), refl, ((refl, tt), (tt, ((refl, tt), (refl, tt))))),
            (
              (
                ((refl, tt), refl),
                refl,
                (
                  (
                    (
                      (
                        refl,
                        tt,
                      ),
                      refl,
                    ),
                    refl,
                    (refl, tt),
                  ),
                  (
                    (((refl, tt), refl), refl),
                    (
                      (((refl, tt), refl), refl, (refl, tt)),
                      (
                        (((refl, tt), refl), refl, (refl, tt)),
                        (
                          (((refl, tt), refl), refl, (refl, tt)),
                          (
                            (((refl, tt), refl), refl, tt),
                            (
                              (
                                ((refl, tt), refl),
                                refl,
                                (
                                  (refl, tt),
                                  (
                                    (refl, tt),
                                    (
                                      (
                                        (refl, tt),
                                        (refl, tt),
                                      ),
                                      ((refl, tt), (refl, tt)),
                                    ),
                                  ),
                                ),
                              ),
                              (
                                (
                                  ((refl, tt), refl),
                                  refl,
                                  (
                                    ((refl, tt), refl),
                                    (
                                      ((refl, tt), refl),
                                      (
                                        ((refl, tt), refl),
                                        (
                                          (refl, tt),
                                          refl,
                                        ),
                                      ),
                                    ),
                                  ),
                                ),
                                (((refl, tt), refl), refl, (((refl, tt), refl), refl, (refl, tt))),
                              ),
                            ),
                          ),
                        ),
                      ),
                    ),
                  ),
                ),
              ),
              (
                (
                  ((refl, tt), refl),
                  refl,
                  (
                    (
                      ((refl, tt), refl),
                      refl,
                      (refl, tt),
                    ),
                    (((refl, tt), refl), refl, (refl, tt)),
                  ),
                ),
                (
                  (((refl, tt), refl), refl, (refl, tt)),
                  (
                    ((refl, tt), refl),
                    refl,
                    (
                      (
                        ((refl, tt), refl),
                        refl,
                        (refl, tt),
                      ),
                      (
                        (((refl, tt), refl), refl),
                        (
                          (((refl, tt), refl), refl, (refl, tt)),
                          (
                            (((refl, tt), refl), refl, (refl, tt)),
                            (
                              (
                                (
                                  (refl, tt),
                                  refl,
                                ),
                                refl,
                                ((refl, tt), (refl, tt)),
                              ),
                              (
                                (((refl, tt), refl), refl, ((refl, tt), (refl, tt))),
                                (
                                  (((refl, tt), refl), refl, tt),
                                  (
                                    (
                                      (
                                        (refl, tt),
                                        refl,
                                      ),
                                      refl,
                                      (refl, tt),
                                    ),
                                    (
                                      (((refl, tt), refl), refl, (refl, tt)),
                                      (
                                        (((refl, tt), refl), refl, (refl, tt)),
                                        (
                                          (
                                            ((refl, tt), refl),
                                            refl,
                                            (
                                              refl,
                                              tt,
                                            ),
                                          ),
                                          (((refl, tt), refl), refl, ((refl, tt), (refl, tt))),
                                        ),
                                      ),
                                    ),
                                  ),
                                ),
                              ),
                            ),
                          ),
                        ),
                      ),
                    ),
                  ),
                ),
              ),
            ),
          ),
        ),
      ),
    ),
  );
  lines = (
    refl,
    (
      refl,
      (
        refl,
        (
          refl,
          (
            omega arith,
            (refl, refl),
            (
              omega arith,
              (refl, refl),
              (
                omega arith,
                (refl, refl),
                (
                  refl,
                  (
                    refl,
                    (
                      refl,
                      (
                        refl,
                        (
                          refl,
                          (
                            refl,
                            (
                              refl,
                              (
                                refl,
                                (
                                  refl,
                                  (
                                    refl,
                                    (
                                      refl,
                                      (
                                        refl,
                                        (
                                          refl,
                                          (
                                            refl,
                                            (
                                              refl,
                                              (
                                                refl,
                                                (
                                                  refl,
                                                  (
                                                    refl,
                                                    (
                                                      refl,
                                                      (
                                                        refl,
                                                        (
                                                          refl,
                                                          (
                                                            refl,
                                                            (
                                                              refl,
                                                              (
                                                                refl,
                                                                (
                                                                  refl,
                                                                  (
                                                                    refl,
                                                                    (
                                                                      refl,
                                                                      (
                                                                        refl,
                                                                        (
                                                                          refl,
                                                                          (
                                                                            refl,
                                                                            (
                                                                              omega arith,
                                                                              (refl, refl),
                                                                              (refl, (refl, (refl, (refl, (refl, tt))))),
                                                                            ),
                                                                          ),
                                                                        ),
                                                                      ),
                                                                    ),
                                                                  ),
                                                                ),
                                                              ),
                                                            ),
                                                          ),
                                                        ),
                                                      ),
                                                    ),
                                                  ),
                                                ),
                                              ),
                                            ),
                                          ),
                                        ),
                                      ),
                                    ),
                                  ),
                                ),
                              ),
                            ),
                          ),
                        ),
                      ),
                    ),
                  ),
                ),
              ),
            ),
          ),
        ),
      ),
    ),
  );
}

kinds-tree : tree_of kinds_means ≡ some (Tree.dict (Tree.pair (bytes "schema") (Tree.str (bytes "passportsim/scenario@1")) (Tree.pair (bytes "name")
    (Tree.str (bytes "kinds of values")) (Tree.pair (bytes "description") (Tree.str (bytes
    "A literal keeps its lines.\n  Deeper lines keep their spaces.\n# This is no comment.\n")) (Tree.pair (bytes "image") (Tree.str (bytes
    "quoted, with a tab\tand a \"quote\"")) (Tree.pair (bytes "tags") (Tree.seq (Tree.◌▸◌ (Tree.str (bytes "plain")) (Tree.◌▸◌ (Tree.str (bytes
    "it's quoted")) (Tree.◌▸◌ (Tree.int (pos 7)) (Tree.◌▸◌ (Tree.bool true) Tree.end))))) (Tree.pair (bytes "setup") (Tree.dict (Tree.pair (bytes
    "nothing") Tree.null (Tree.pair (bytes "also nothing") Tree.null (Tree.pair (bytes "yes or no") (Tree.bool false) (Tree.pair (bytes
    "whole number") (Tree.int (negsuc 11)) (Tree.pair (bytes "text") (Tree.str (bytes "Bourdon")) (Tree.pair (bytes "no number") (Tree.str (bytes
    "12")) (Tree.pair (bytes "list") (Tree.seq (Tree.◌▸◌ (Tree.int (pos 1)) (Tree.◌▸◌ (Tree.str (bytes "two")) (Tree.◌▸◌ (Tree.seq (Tree.◌▸◌ (Tree.int
    (pos 3)) (Tree.◌▸◌ (Tree.int (pos 4)) Tree.end))) (Tree.◌▸◌ (Tree.dict (Tree.pair (bytes "five") (Tree.int (pos 5)) Tree.done)) Tree.end)))))
    (Tree.pair (bytes "longer list") (Tree.seq (Tree.◌▸◌ (Tree.str (bytes "great")) (Tree.◌▸◌ (Tree.str (bytes "small")) (Tree.◌▸◌ (Tree.seq (Tree.◌▸◌
    (Tree.str (bytes "inner")) (Tree.◌▸◌ (Tree.str (bytes "list")) Tree.end))) Tree.end)))) (Tree.pair (bytes "deeper") (Tree.dict (Tree.pair (bytes
    "key") (Tree.str (bytes "value")) Tree.done)) Tree.done)))))))))) (Tree.pair (bytes "defaults") (Tree.dict (Tree.pair (bytes "timeout") (Tree.str
    (bytes "30s")) (Tree.pair (bytes "wall_budget") (Tree.int (pos 5000)) Tree.done))) (Tree.pair (bytes "fail_on") (Tree.seq (Tree.◌▸◌ (Tree.str
    (bytes "bell silent")) Tree.end)) (Tree.pair (bytes "steps") (Tree.seq (Tree.◌▸◌ (Tree.dict (Tree.pair (bytes "strike") (Tree.int (pos 5))
    Tree.done)) (Tree.◌▸◌ (Tree.dict (Tree.pair (bytes "strike") Tree.null Tree.done)) (Tree.◌▸◌ (Tree.dict (Tree.pair (bytes "strike") (Tree.bool
    true) Tree.done)) (Tree.◌▸◌ (Tree.dict (Tree.pair (bytes "strike") (Tree.str (bytes "great")) Tree.done)) (Tree.◌▸◌ (Tree.dict (Tree.pair (bytes
    "strike") (Tree.seq (Tree.◌▸◌ (Tree.str (bytes "great")) (Tree.◌▸◌ (Tree.str (bytes "small")) Tree.end))) Tree.done)) (Tree.◌▸◌ (Tree.dict
    (Tree.pair (bytes "strike") (Tree.dict (Tree.pair (bytes "bell") (Tree.str (bytes "great")) Tree.done)) Tree.done)) (Tree.◌▸◌ (Tree.dict
    (Tree.pair (bytes "say") (Tree.str (bytes "Noon.")) (Tree.pair (bytes "name") (Tree.str (bytes "all fields")) (Tree.pair (bytes "id") (Tree.str
    (bytes "last")) (Tree.pair (bytes "timeout") (Tree.str (bytes "10s")) (Tree.pair (bytes "continue_on_error") (Tree.bool true) (Tree.pair (bytes
    "expect") (Tree.dict (Tree.pair (bytes "heard") (Tree.bool true) Tree.done)) Tree.done))))))) Tree.end)))))))) Tree.done))))))))))
unfolding All-open
kinds-tree = refl
