-- Only the first 99 bytes of a line matter: T or V, a space, and 97 bytes. Lines that begin alike are answered alike, whatever follows them.
use mathlib.Core.Path.{◌≡◌, refl, sym, ap, ◌∙◌}
use mathlib.Core.Bool.{Bool, true, false, not}
use mathlib.Core.List.{List, [], ◌∷◌, ◌++◌}
use Prim.Native.Nat.{ℕ, zero, suc, ◌+◌, ◌≤◌, ◌<◌}
use native.Mathlib.Omega.{arith}
use borrow.Author.Tests.{lt-ltb, ltb-true, ltb-false}
use lib.Dec.{eqb, ltb, lit≤}
use lib.ListN.{length, take, length-take}
use lib.Seq.{take_all}
use Rattle.rules.specs.TheWord.{most_keys, most_bytes}
use Rattle.rules.specs.Refusals.{is_mode, refusal}
use Rattle.rules.specs.Drill.{newline, refused_line, mode_of, last_line, lines_from, answers}
use Rattle.lines.specs.Programs.{answer_of}
use Rattle.lines.specs.declared.Program.{Program}
use Rattle.lines.specs.declared.Program.TheVariants.{Drill, DrillWithKeys, Spell}
use Rattle.lines.proofs.Starts.{rest_of, by_rest}
use Rattle.stream.specs.Feeding.{most_kept}

-- more than a program takes behind the start is refusal 2, whatever it is and whatever follows
abbrev most : Program → ℕ
most Drill = most_keys
most DrillWithKeys = most_keys
most Spell = most_bytes

most_96 : (p : Program) → most p ≤ 96
most_96 Drill = lit≤ tt
most_96 DrillWithKeys = lit≤ tt
most_96 Spell = lit≤ tt

too_many : (p : Program) (m : ℕ) (rest : List ℕ) → not (is_mode m) ≡ false → most p < length rest → rest_of p m rest ≡ refused_line (record { number = 2; value = most p })
unfolding refusal
too_many Drill m rest e h = simp (e, lt-ltb most_keys (0 + length rest) (omega arith))
too_many DrillWithKeys m rest e h = simp (e, lt-ltb most_keys (0 + length rest) (omega arith))
too_many Spell m rest e h = simp (e, lt-ltb most_bytes (length rest) h)

-- and in no mode anything is refusal 1
no_mode : (p : Program) (m : ℕ) (rest : List ℕ) → not (is_mode m) ≡ true → rest_of p m rest ≡ refused_line (record { number = 1; value = 0 })
unfolding refusal
no_mode Drill m rest e = simp e
no_mode DrillWithKeys m rest e = simp e
no_mode Spell m rest e = simp e

first_rest : (p : Program) (m : ℕ) (rest : List ℕ) → rest_of p m rest ≡ rest_of p m (take 97 rest)
first_rest p m rest = go (not (is_mode m)) (ltb (most p) (length rest)) refl refl
  where
    go : (a b : Bool) → not (is_mode m) ≡ a → ltb (most p) (length rest) ≡ b → rest_of p m rest ≡ rest_of p m (take 97 rest)
    go true b e d = no_mode p m rest e ∙ sym (no_mode p m (take 97 rest) e)
    go false true e d =
        let h = ltb-true (most p) (length rest) d in
        too_many p m rest e h ∙ sym (too_many p m (take 97 rest) e (simp length-take (omega (arith, most_96 p))))
    go false false e d =
        let h = ltb-false (most p) (length rest) d in
        ap (rest_of p m) (sym (take_all 97 rest (omega (arith, most_96 p))))

pub first_bytes : (p : Program) (line : List ℕ) → answer_of p line ≡ answer_of p (take most_kept line)
first_bytes p [] = refl
first_bytes p (b ∷ []) = refl
first_bytes p (b ∷ c ∷ rest) =
    sym (by_rest p (b ∷ c ∷ rest)) ∙ first_rest p (mode_of (b ∷ c ∷ rest)) rest ∙ by_rest p (b ∷ c ∷ take 97 rest)

-- one byte more behind lines that begin alike
take_front : (n : ℕ) (l r : List ℕ) → take n (take n l ++ r) ≡ take n (l ++ r)
take_front zero l r = refl
take_front (suc n) [] r = refl
take_front (suc n) (x ∷ xs) r = ap (λ (ys : List ℕ). x ∷ ys) (take_front n xs r)

module _ (p : Program) where
  same_answer : (l k : List ℕ) → take most_kept l ≡ take most_kept k → answer_of p l ≡ answer_of p k
  same_answer l k e = first_bytes p l ∙ ap (answer_of p) e ∙ sym (first_bytes p k)

  last_alike : (l k : List ℕ) → take most_kept l ≡ take most_kept k → answers (answer_of p) (last_line l) ≡ answers (answer_of p) (last_line k)
  last_alike [] [] e = refl
  last_alike [] (c ∷ cs) e = let z : ◌≡◌ {A = ℕ} 0 1 = cc in absurd (omega arith)
  last_alike (b ∷ bs) [] e = let z : ◌≡◌ {A = ℕ} 0 1 = cc in absurd (omega arith)
  last_alike (b ∷ bs) (c ∷ cs) e = ap (λ (t : List ℕ). t ++ []) (same_answer (b ∷ bs) (c ∷ cs) e)

  pub alike : (input l k : List ℕ) → take most_kept l ≡ take most_kept k → answers (answer_of p) (lines_from l input) ≡ answers (answer_of p) (lines_from k input)
  alike [] l k e = last_alike l k e
  alike (b ∷ bs) l k e =
      go (eqb b newline)
      (alike bs (l ++ (b ∷ [])) (k ++ (b ∷ []))
      (sym (take_front most_kept l (b ∷ [])) ∙ ap (λ (t : List ℕ). take most_kept (t ++ (b ∷ []))) e ∙ take_front most_kept k (b ∷ [])))
    where
      go : (c : Bool) → answers (answer_of p) (lines_from (l ++ (b ∷ [])) bs) ≡ answers (answer_of p) (lines_from (k ++ (b ∷ [])) bs)
          → answers (answer_of p) (elim c [ true ↦ l ∷ lines_from [] bs | false ↦ lines_from (l ++ (b ∷ [])) bs ]) ≡ answers (answer_of p) (elim c [ true ↦ k ∷ lines_from [] bs | false ↦ lines_from (k ++ (b ∷ [])) bs ])
      go true more = ap (λ (t : List ℕ). t ++ answers (answer_of p) (lines_from [] bs)) (same_answer l k e)
      go false more = more
