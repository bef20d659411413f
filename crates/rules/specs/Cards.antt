-- 14 Cards (docs/RULES.md): the cards that are proved, in one list, and lines of the programs with their answers.
use Rattle.std.specs.Prelude.{Bool, true, false, ◌&&◌, List, [], ◌∷◌, ◌++◌, ℕ, eqb, Option, Some, None}
use Rattle.std.specs.Bool.{beq}
use Prim.Native.String.{String}
use Rattle.rules.specs.Letters.{telex, vni, characters}
use Rattle.rules.specs.TakingApart.{verdict}
use Rattle.rules.specs.TonePlace.{tone_place}
use Rattle.rules.specs.TheWord.{Typed}
use Rattle.rules.specs.Decision.{decision}
use Rattle.rules.specs.CodePoints.{utf8_of, shown}
use Rattle.rules.specs.Refusals.{same_bytes}
use Rattle.rules.specs.WhatComesBack.{typed, commit}
use Rattle.rules.specs.Drill.{newline}
use Rattle.rules.specs.declared.Decision.{Decision}
use Rattle.rules.specs.declared.Decision.TheVariants.{Keep, Restore}

-- 14.1 A card has a mode, keys, the text that they show and what commit hands back, and as far as they are told the
-- verdict, the tone, its place, the mark and the decision.
pub record Card : Type 0 where
  pub mode : ℕ
  pub keys : String
  pub text : String
  pub back : String
  pub verdict_is : Option ℕ
  pub tone_is : Option ℕ
  pub place_is : Option ℕ
  pub closed_is : Option Bool
  pub decision_is : Option Decision

abbrev is_place : Option ℕ → Option ℕ → Bool
is_place None p = true
is_place (Some n) (Some m) = eqb m n
is_place (Some n) None = false

abbrev is_number : Option ℕ → ℕ → Bool
is_number None m = true
is_number (Some n) m = eqb m n

abbrev is_mark : Option Bool → Bool → Bool
is_mark None c = true
is_mark (Some b) c = beq b c

abbrev is_decision : Option Decision → Decision → Bool
is_decision None d = true
is_decision (Some Keep) Keep = true
is_decision (Some Keep) Restore = false
is_decision (Some Restore) Keep = false
is_decision (Some Restore) Restore = true

abbrev told : Card → Typed → Bool
told c z =
    same_bytes (shown z.state) (utf8_of (characters c.text)) &&
    (same_bytes (commit c.mode (characters c.keys) (shown z.state)) (utf8_of (characters c.back)) &&
    (is_number c.verdict_is (verdict z.state.letters z.state.tone) &&
    (is_number c.tone_is z.state.tone &&
    (is_place c.place_is (tone_place z.state.letters z.state.tone) &&
    (is_mark c.closed_is z.state.closed &&
    is_decision c.decision_is (decision z))))))

abbrev holds : Card → Bool
holds c = told c (typed c.mode (characters c.keys))

abbrev pub every_card : List Card → Bool
every_card [] = true
every_card (c ∷ cs) = holds c && every_card cs

abbrev pub card : String → String → Option ℕ → Option ℕ → Option Bool → Option Decision → Card
card keys text v p m d = record { mode = telex; keys = keys; text = text; back = text; verdict_is = v; tone_is = None; place_is = p; closed_is = m; decision_is = d }

-- 14.2 The cards that are proved stand in one list.
abbrev pub starred : List Card
starred =
    card "" "" (Some 1) None None (Some Keep) ∷
    card "vieejt" "việt" (Some 0) (Some 2) None (Some Keep) ∷
    card "hoas" "hóa" None (Some 1) None None ∷
    card "hoasn" "hoán" None (Some 2) None None ∷
    card "claus" "claus" (Some 2) None None (Some Keep) ∷
    record { mode = telex; keys = "text"; text = "tẽt"; back = "text"; verdict_is = Some 7; tone_is = Some 4; place_is = Some 1; closed_is = None; decision_is = Some Restore } ∷
    card "tesst" "test" None None (Some true) (Some Keep) ∷
    card "dod" "đo" None None None None ∷
    card "nguoiwf" "người" None (Some 3) None None ∷
    card "quas" "quá" None (Some 2) None None ∷
    card "gias" "giá" None (Some 2) None None ∷
    card "aww" "aw" None None (Some true) None ∷
    card "carps" "cáp" None None None None ∷
    record { mode = vni; keys = "d9uong72"; text = "đường"; back = "đường"; verdict_is = None; tone_is = None; place_is = Some 2; closed_is = None; decision_is = None } ∷
    []

-- 14.3 Lines of the drill that are proved with their answers: the worked case, and what is refused first where two
-- refusals hold.
pub record Line : Type 0 where
  pub line : String
  pub answer : String

abbrev answers : String → String → Line
answers l a = record { line = l; answer = a }

abbrev pub lines : List Line
lines =
    answers "T vieejt" "việt việt 0 5 2 K" ∷
    answers "T text" "tẽt text 7 4 1 R" ∷
    answers "V a11" "a1 a1 5 0 - K" ∷
    answers "T a1" "! 3 1" ∷
    answers "" "! 1 0" ∷
    answers "t a" "! 1 0" ∷
    answers "T " "- - 1 0 - K" ∷
    answers "T aaaaaaaaaaaaaaaaaaaaaaaaaaaaaaaa1" "! 2 32" ∷
    answers "V aaaaaaaaaaaaaaaaaaaaaaaaaaaaaaa!" "! 3 31" ∷
    -- a closed word is kept as it stands, also where it is no syllable and carries a mark
    answers "T reserve" "rẻve rẻve 3 3 1 K" ∷
    answers "T tomorrow" "tômrow tômrow 3 0 - K" ∷
    -- W-201, the nucleus uơ
    answers "T thuowr" "thuở thuở 0 3 3 K" ∷
    answers "V thuo73" "thuở thuở 0 3 3 K" ∷
    answers "T huow" "huơ huơ 0 0 - K" ∷
    answers "T huoww" "huow huow 5 0 - K" ∷
    answers "T huowng" "hương hương 0 0 - K" ∷
    answers "T HUOWNG" "HƯƠNG HƯƠNG 0 0 - K" ∷
    answers "T huowu" "hươu hươu 0 0 - K" ∷
    answers "T huowi" "hươi hươi 0 0 - K" ∷
    answers "T huowh" "huơh huowh 5 0 - R" ∷
    answers "T huoow" "huơ huơ 0 0 - K" ∷
    answers "T huwow" "hươ huwow 6 0 - R" ∷
    answers "T uow" "ươ uow 6 0 - R" ∷
    answers "T luow" "lươ luow 6 0 - R" ∷
    answers "V huo7c1" "hước hước 0 1 2 K" ∷
    []

-- 14.4 The worked case as one input and one output, the line of names in front.
abbrev in_lines : List String → List ℕ
in_lines [] = []
in_lines (l ∷ ls) = utf8_of (characters l) ++ (newline ∷ in_lines ls)

abbrev pub worked_input : List ℕ
worked_input = in_lines ("T vieejt" ∷ "T text" ∷ "V a11" ∷ "T a1" ∷ [])

abbrev pub worked_answers : List ℕ
worked_answers = in_lines ("shown commit verdict tone place decision" ∷ "việt việt 0 5 2 K" ∷ "tẽt text 7 4 1 R" ∷ "a1 a1 5 0 - K" ∷ "! 3 1" ∷ [])

-- 14.5 Lines of the speller that are proved with their answers.
abbrev pub spell_lines : List Line
spell_lines =
    answers "T việt" "vieetj" ∷
    answers "V đường" "d9uo7ng2" ∷
    answers "T hoá" "! 7 9" ∷
    answers "T hóá" "! 7 8" ∷
    answers "T text" "! 7 5" ∷
    answers "T " "! 7 1" ∷
    answers "V a1" "! 6 1" ∷
    answers "t a" "! 1 0" ∷
    answers "T aaaaaaaaaaaaaaaaaaaaaaaaaaaaaaaaaaaaaaaaaaaaaaaaaaaaaaaaaaaaaaaaaaaaaaaaaaaaaaaaaaaaaaaaaaaaaaaa1" "! 2 96" ∷
    -- W-201
    answers "T thuở" "thuowr" ∷
    answers "V huơ" "huo7" ∷
    answers "T huơn" "! 7 6" ∷
    answers "T luơ" "! 7 6" ∷
    []

abbrev answers_so : (List ℕ → List ℕ) → Line → Bool
answers_so answer l = same_bytes (answer (utf8_of (characters l.line))) (utf8_of (characters l.answer) ++ (newline ∷ []))

abbrev pub every_line : (List ℕ → List ℕ) → List Line → Bool
every_line answer [] = true
every_line answer (l ∷ ls) = answers_so answer l && every_line answer ls
