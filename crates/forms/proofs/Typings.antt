-- Each valid syllable, in both modes: its bare letters typed, its marks on them, and its standard list typed, from the computed tests.
use Rattle.std.specs.Prelude.{Option, Ok}
use mathlib.Core.Path.{◌≡◌, refl, sym, ap, subst, ◌∙◌}
use mathlib.Core.Bool.{Bool, true, false, ◌&&◌}
use mathlib.Core.List.{List, [], ◌∷◌, ◌++◌, map}
use Prim.Native.Nat.{ℕ, ◌+◌, ◌≤◌}
use native.Mathlib.Omega.{arith}
use lib.Dec.{T, eqb, leb, leb→le}
use lib.ListN.{length}
use lib.Ieee.Fits.{and_i, and_l, and_r, eq→eqb}
use Rattle.rules.specs.Letters.{Letters, no_tone}
use Rattle.rules.specs.TakingApart.{admitted, final, fits, verdict}
use Rattle.rules.specs.TheWord.{State, most_keys, new_word, word_of, holding}
use Rattle.rules.specs.KeyRoles.{is_key, role, lower, tone_goes}
use Rattle.rules.specs.Decision.{keep_if, keeps, starts_with_đ, decision}
use Rattle.rules.specs.CodePoints.{shown}
use Rattle.rules.specs.Speller.{letter_keys, tone_keys, standard_keys}
use Rattle.rules.specs.Refusals.{all, is_mode, no_rows, not_this}
use Rattle.rules.specs.WhatComesBack.{typed, type_call, type_or, type_all}
use Rattle.rules.specs.declared.Refusal.{Refusal}
use Rattle.rules.specs.declared.Role.{Role}
use Rattle.rules.specs.declared.Decision.TheVariants.{Keep}
use Rattle.rules.proofs.Tests.{or_r}
use Rattle.rules.proofs.Range.{twice, not_over}
use Rattle.rules.proofs.Refused.{refusal_none}
use Rattle.rules.specs.Syllables.{Syllable, open_word, bare_keys, mark_keys, Order}
use Rattle.forms.specs.Spelling.{Gives}
use Rattle.forms.proofs.KeyCourses.{letter, course, bare, types_to}
use Rattle.forms.proofs.Tests.{chain, bare_test, list_test, word_test}
use Rattle.forms.proofs.Bridge.{passed}
use Rattle.forms.proofs.EachValid.{each_valid}
use Rattle.forms.proofs.Presses.{pressing, typed_state, pressing_append}
use Rattle.forms.proofs.Agreeing.{valid_admitted, bare_admitted}
use Rattle.forms.proofs.AnyCase.{case_admitted}
use Rattle.forms.proofs.CoursesTyped.{types_to_law, bare_allowed}
use Rattle.forms.proofs.Runs.{runs_pressing, runs_left, any_order}
use Rattle.forms.proofs.MarksAct.{toned, toned_runs, Chained, chained, with_tone}
use Rattle.forms.proofs.Keys.{roles_lower, order_map, all_append, letters_allowed, tone_allowed, order_allowed, list_count, order_count, bare_course, course_keys, bare_capitals, course_capitals, capitals_bare}
use Rattle.forms.proofs.Computed.{every_word}

-- keys that lead to the syllable give it
keeps_valid : (m : ℕ) (ks : List ℕ) → verdict (typed m ks).state.letters (typed m ks).state.tone ≡ 0 → decision (typed m ks) ≡ Keep
unfolding keeps
keeps_valid m ks v =
    let z = typed m ks in
    go (keeps z) (or_r (eqb z.acted 0 && eqb z.undone 0) _ (or_r z.state.closed _ (or_r (starts_with_đ z.state.letters) _ (eq→eqb v))))
  where
    go : (b : Bool) → T b → keep_if b ≡ Keep
    go true t = refl
    go false t = elim t [ ]

not_refused : (m : ℕ) (ks : List ℕ) → T (is_mode m) → T (all (is_key m) ks) → length ks ≤ 9 → type_all m ks ≡ record { answer = Ok tt; word = holding (new_word m) (typed m ks) }
unfolding type_all
not_refused m ks mode a n =
    ap (λ (o : Option Refusal). type_or o m ks)
    ((refusal_none (type_call m ks)).1
    (not_this tt (not_this (twice (is_mode m) mode) (not_this (not_over most_keys (0 + length ks) (omega arith)) (not_this tt
    (not_this (twice (all (is_key m) ks) a) (not_this tt (not_this tt (not_this tt (not_this tt no_rows))))))))))

gives : (m : ℕ) → T (is_mode m) → (ks : List ℕ) (w : Letters) (t : ℕ) → verdict w t ≡ 0 → pressing m (open_word [] no_tone) ks ≡ open_word w t → T (all (is_key m) ks) → length ks ≤ 9 → Gives m ks w t
gives m mode ks w t v p a n =
    let e : (typed m ks).state ≡ open_word w t = typed_state (word_of (new_word m)) ks ∙ p in
    let u : verdict (typed m ks).state.letters (typed m ks).state.tone ≡ 0 = ap (λ (s : State). verdict s.letters s.tone) e ∙ v in
    record { state = e; text = ap shown e; verdict_0 = u; kept = keeps_valid m ks u; allowed = a; short = n; answered = not_refused m ks mode a n }

map-append : (f : ℕ → Role) (ks js : List ℕ) → map f (ks ++ js) ≡ map f ks ++ map f js
map-append f [] js = refl
map-append f (k ∷ ks) js = ap (◌∷◌ (f k)) (map-append f ks js)

module _ (m : ℕ) (mode : T (is_mode m)) (w : Letters) (t : ℕ) (s : Syllable w t) where
  abbrev marks : List Role
  marks = map (role m) (mark_keys m w)

  bare_tested : T (bare_test m w)
  bare_tested = and_l (bare_test m w) (list_test m w) (each_valid (word_test m) (every_word m mode) w t s.valid)

  list_tested : T (list_test m w)
  list_tested = and_r (bare_test m w) (list_test m w) (each_valid (word_test m) (every_word m mode) w t s.valid)

  types_bare : T (types_to m (map letter w) (bare w))
  types_bare = and_l (types_to m (map letter w) (bare w)) (chain w marks (bare w)) bare_tested

  -- its keys are allowed and few
  bare_keys_law : T (all (is_key m) (bare_keys w))
  bare_keys_law = bare_allowed m _ [] w types_bare

  few_and_marks : T (leb (length (letter_keys m w)) 8 && all (is_key m) (mark_keys m w))
  few_and_marks = and_r (types_to m (course m w) w) (leb (length (letter_keys m w)) 8 && all (is_key m) (mark_keys m w)) list_tested

  pub few : length (letter_keys m w) ≤ 8
  few = leb→le (length (letter_keys m w)) 8 (and_l (leb (length (letter_keys m w)) 8) (all (is_key m) (mark_keys m w)) few_and_marks)

  mark_keys_law : T (all (is_key m) (mark_keys m w))
  mark_keys_law = and_r (leb (length (letter_keys m w)) 8) (all (is_key m) (mark_keys m w)) few_and_marks

  -- its bare letters are typed, and its marks run on them
  bare_typed : pressing m (open_word [] no_tone) (bare_keys w) ≡ open_word (bare w) no_tone
  bare_typed = ap (pressing m (open_word [] no_tone)) (sym (bare_course w)) ∙ types_to_law m (map letter w) (bare w) types_bare (bare_capitals w)

  marked : Chained w (bare w) marks t
  marked = chained w marks (bare w) t (case_admitted w t s.valid) (capitals_bare w) (and_r (types_to m (map letter w) (bare w)) (chain w marks (bare w)) bare_tested)

  -- a tone goes on the bare letters, and on the word
  tone_on_bare : T (tone_goes t (bare w))
  tone_on_bare = and_i (admitted (bare w)) (fits (final (bare w)) t) (bare_admitted w t s.valid) (subst (λ (f : Letters). T (fits f t)) (sym (runs_left marked.run).ends) (passed w t s.valid).tone)

  tone_on_word : T (tone_goes t w)
  tone_on_word = and_i (admitted w) (fits (final w) t) (valid_admitted w t s.valid) (passed w t s.valid).tone

  pub order_gives : (ks : List ℕ) → Order (tone_keys m t ++ mark_keys m w) (map lower ks) → Gives m (bare_keys w ++ ks) w t
  order_gives ks o =
      let all_marks = with_tone (toned m t mode s.tone) tone_on_bare marked in
      let roles : Order (map (role m) (tone_keys m t) ++ marks) (map (role m) ks) =
      subst (λ (l : List Role). Order l (map (role m) ks)) (map-append (role m) (tone_keys m t) (mark_keys m w)) (subst (Order (map (role m) (tone_keys m t ++ mark_keys m w))) (roles_lower m ks) (order_map (role m) o)) in
      gives m mode (bare_keys w ++ ks) w t s.valid
      (pressing_append m (open_word [] no_tone) (bare_keys w) ks ∙ ap (λ (y : State). pressing m y ks) bare_typed ∙ runs_pressing m ks refl (any_order roles all_marks.apart all_marks.each all_marks.run))
      (all_append (is_key m) (bare_keys w) ks bare_keys_law (order_allowed m ks o (all_append (is_key m) (tone_keys m t) (mark_keys m w) (tone_allowed m t mode s.tone) mark_keys_law)))
      (order_count m w t ks o few)

  list_typed : pressing m (open_word [] no_tone) (letter_keys m w) ≡ open_word w no_tone
  list_typed = ap (pressing m (open_word [] no_tone)) (sym (course_keys m w)) ∙ types_to_law m (course m w) w (search (and_l, list_tested)) (course_capitals m w)

  pub list_gives : Gives m (standard_keys m w t) w t
  unfolding standard_keys
  list_gives =
      gives m mode (letter_keys m w ++ tone_keys m t) w t s.valid
      (pressing_append m (open_word [] no_tone) (letter_keys m w) (tone_keys m t) ∙
      ap (λ (y : State). pressing m y (tone_keys m t)) list_typed ∙
      runs_pressing m (tone_keys m t) refl (toned_runs (toned m t mode s.tone) tone_on_word))
      (all_append (is_key m) (letter_keys m w) (tone_keys m t) (letters_allowed m w bare_keys_law mark_keys_law) (tone_allowed m t mode s.tone))
      (list_count m w t few)
