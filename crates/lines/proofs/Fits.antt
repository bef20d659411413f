-- An answer line has at most 512 bytes, in each program, and at most 12 for each byte of its line and for the newline behind it.
use Rattle.std.specs.Prelude.{Option, Some, None, Ok}
use mathlib.Core.Path.{◌≡◌, refl, sym, ap, subst}
use mathlib.Core.Bool.{Bool, true, false}
use mathlib.Core.List.{List, [], ◌∷◌, ◌++◌}
use Prim.Native.Nat.{ℕ, ◌+◌, ◌*◌, ◌≤◌, min}
use Prim.Native.Char.{code}
use native.Mathlib.Omega.{arith}
use lib.Dec.{lit≤}
use lib.ListN.{length, drop, length-append}
use Rattle.rules.specs.TakingApart.{verdict}
use Rattle.rules.specs.TonePlace.{tone_place}
use Rattle.rules.specs.TheWord.{Typed, new_word, word_of}
use Rattle.rules.specs.CodePoints.{shown}
use Rattle.rules.specs.Decision.{decision, handed_back}
use Rattle.rules.specs.Refusals.{refusal}
use Rattle.rules.specs.WhatComesBack.{typed, type_call, type_or, type_all}
use Rattle.rules.specs.Drill.{newline, decimal, or_hyphen, place_column, decision_column, columns, word_columns, refused_line, line_or, keys_line, mode_of, answer_line, key_columns, word_line_with_keys, answer_line_with_keys}
use Rattle.rules.specs.SpellProgram.{text_call, spelled_or, spelled_line, spell_line}
use Rattle.rules.specs.declared.Refusal.{Refusal}
use Rattle.rules.specs.declared.Decision.{Decision}
use Rattle.rules.specs.declared.Decision.TheVariants.{Keep, Restore}
use Rattle.rules.proofs.TextFits.{three_a_letter}
use Rattle.rules.proofs.Typing.{kept_keys}
use Rattle.rules.proofs.NotRefused.{typed_held, few_keys, fewer_letters}
use Rattle.lines.specs.Appending.{ended_by, most_in_line, most_a_byte}
use Rattle.lines.specs.Programs.{word_line_of, answer_of}
use Rattle.lines.specs.declared.Program.{Program}
use Rattle.lines.specs.declared.Program.TheVariants.{Drill, DrillWithKeys, Spell}
use Rattle.lines.proofs.Columns.{hyphen_long, handed_long, decimal_long, place_long}
use Rattle.lines.proofs.KeyPlaces.{with_keys, key_columns_long}
use Rattle.lines.proofs.Spelled.{keys_few, few_spelled}
use Rattle.lines.proofs.Starts.{rest_of, by_rest}

-- columns that are short together make a short line
module _ (a b c : List ℕ) (x : ℕ) where
  three_long : length (a ++ (x ∷ [])) ≤ 3 → length (b ++ (x ∷ [])) ≤ 3 → length (c ++ (x ∷ [])) ≤ 3 → length (columns (a ∷ b ∷ c ∷ [])) ≤ 9
  three_long p q r = simp length-append (omega (arith, length-append a (x ∷ []), length-append b (x ∷ []), length-append c (x ∷ [])))

  six_long : (d e f : List ℕ) (n : ℕ) → length (a ++ (x ∷ [])) ≤ n + 2 → length (b ++ (x ∷ [])) ≤ n + 2 → length (c ++ (x ∷ [])) ≤ 3 → length (d ++ (x ∷ [])) ≤ 3 → length (e ++ (x ∷ [])) ≤ 3 → length f ≤ 1
      → (end : ℕ) → length (ended_by end (a ∷ b ∷ c ∷ d ∷ e ∷ f ∷ [])) ≤ 2 * n + 15
  six_long d e f n p q r s t u end =
      simp length-append
      (omega (arith, length-append a (x ∷ []), length-append b (x ∷ []), length-append c (x ∷ []), length-append d (x ∷ []), length-append e (x ∷ [])))

decision_long : (d : Decision) → length (decision_column d) ≤ 1
decision_long Keep = lit≤ tt
decision_long Restore = lit≤ tt

-- a word's: three bytes a key for what is shown, and for what is handed back
pub word_long : (z : Typed) (k : ℕ) → length z.state.letters ≤ k → length z.keys ≤ k → (end : ℕ) → length (ended_by end (word_columns z)) ≤ 2 * (3 * k) + 15
word_long z k l h end =
    let text = shown z.state in
    let d = decision z in
    let v = verdict z.state.letters z.state.tone in
    let p = tone_place z.state.letters z.state.tone in
    let short : length text ≤ 3 * k = omega (arith, three_a_letter z.state) in
    six_long (or_hyphen text) (or_hyphen (handed_back d text z.keys)) (decimal v) 32 (decimal z.state.tone) (place_column p) (decision_column d) (3 * k) (omega (arith, hyphen_long text 32))
    (handed_long d text z.keys 32 short (omega arith)) (decimal_long v 32) (decimal_long z.state.tone 32) (place_long p 32) (decision_long d) end

-- and six bytes a letter for the places of its keys
with_keys_long : (z : Typed) (k : ℕ) → length z.state.letters ≤ k → length z.keys ≤ k → length z.places.appended_by ≤ k → length (word_line_with_keys z) ≤ 12 * k + 20
with_keys_long z k l h few =
    omega (arith, ap length (with_keys z), length-append (ended_by (code " ") (word_columns z)) (columns (key_columns z)), word_long z k l h (code " "), key_columns_long z k few)

either_long : (b : Bool) (z : Typed) (k : ℕ) → length z.state.letters ≤ k → length z.keys ≤ k → length z.places.appended_by ≤ k → length (word_line_of b z) ≤ 12 * k + 20
either_long true z k l h few = with_keys_long z k l h few
either_long false z k l h few = omega (arith, word_long z k l h newline)

-- a word has as many places as letters
few_places : (m : ℕ) (ks : List ℕ) → (type_all m ks).answer ≡ (Ok tt) → length (typed m ks).places.appended_by ≤ length ks
few_places m ks a = omega (arith, (typed_held m ks a).abreast.by, fewer_letters m ks a)

-- what stands behind a line's start has so many bytes
module _ (n : ℕ) where
  abbrev most : ℕ
  most = min most_in_line (12 * n + 20)

  refused_fits : (x : Refusal) → length (refused_line x) ≤ most
  refused_fits x =
      omega (arith, three_long (code "!" ∷ []) (decimal x.number) (decimal x.value) 32 (lit≤ tt) (decimal_long x.number 32) (decimal_long x.value 32))

keys_fit : (b : Bool) (m : ℕ) (ks : List ℕ) → length (keys_line (word_line_of b) m ks) ≤ most (length ks)
unfolding type_all
keys_fit b m ks = go (refusal (type_call m ks)) refl
  where
    go : (o : Option Refusal) → refusal (type_call m ks) ≡ o → length (keys_line (word_line_of b) m ks) ≤ most (length ks)
    go (Some x) e = subst (λ (o : Option Refusal). length (line_or (word_line_of b) o m ks) ≤ most (length ks)) (sym e) (refused_fits (length ks) x)
    go None e =
        let a : (type_all m ks).answer ≡ (Ok tt) = ap (λ (o : Option Refusal). (type_or o m ks).answer) e in
        let all : length (typed m ks).keys ≤ length ks = omega (arith, kept_keys (word_of (new_word m)) ks) in
        subst (λ (o : Option Refusal). length (line_or (word_line_of b) o m ks) ≤ most (length ks)) (sym e)
        (omega (arith, few_keys m ks a, either_long b (typed m ks) (length ks) (fewer_letters m ks a) all (few_places m ks a)))

spelled_fits : (m : ℕ) (text : List ℕ) → length (spelled_line m text) ≤ most (length text)
spelled_fits m text = go (refusal (text_call m text)) refl
  where
    go : (o : Option Refusal) → refusal (text_call m text) ≡ o → length (spelled_line m text) ≤ most (length text)
    go (Some x) e = subst (λ (o : Option Refusal). length (spelled_or o m text) ≤ most (length text)) (sym e) (refused_fits (length text) x)
    go None e =
        subst (λ (o : Option Refusal). length (spelled_or o m text) ≤ most (length text)) (sym e)
        (simp length-append (omega (arith, keys_few m text, few_spelled m text e)))

rest_fits : (p : Program) (m : ℕ) (rest : List ℕ) → length (rest_of p m rest) ≤ most (length rest)
rest_fits Drill m rest = keys_fit false m rest
rest_fits DrillWithKeys m rest = keys_fit true m rest
rest_fits Spell m rest = spelled_fits m rest

line_fits : (p : Program) (line : List ℕ) → length (answer_of p line) ≤ most (length (drop 2 line))
line_fits p line = subst (λ (l : List ℕ). length l ≤ most (length (drop 2 line))) (by_rest p line) (rest_fits p (mode_of line) (drop 2 line))

pub answer_fits : (p : Program) (line : List ℕ) → length (answer_of p line) ≤ most_in_line
answer_fits p line = omega (arith, line_fits p line)

-- a line too short for a start names no mode, so that its answer is known
pub answer_by_the_byte : (p : Program) (line : List ℕ) → length (answer_of p line) ≤ most_a_byte * (length line + 1)
unfolding answer_line answer_line_with_keys spell_line refusal
answer_by_the_byte Drill [] = lit≤ tt
answer_by_the_byte DrillWithKeys [] = lit≤ tt
answer_by_the_byte Spell [] = lit≤ tt
answer_by_the_byte Drill (b ∷ []) = lit≤ tt
answer_by_the_byte DrillWithKeys (b ∷ []) = lit≤ tt
answer_by_the_byte Spell (b ∷ []) = lit≤ tt
answer_by_the_byte p (b ∷ c ∷ rest) = omega (arith, line_fits p (b ∷ c ∷ rest))
