-- The search of the nuclei: exactly this one is listed, and some one agrees. Assumes nothing.
use mathlib.Core.Path.{◌≡◌, refl, sym, ap, ap₂, subst, ◌∙◌}
use mathlib.Core.Bool.{Bool, true, false, ◌&&◌, ◌||◌}
use mathlib.Core.List.{List, [], ◌∷◌, ◌++◌}
use Prim.Native.Nat.{ℕ, suc, ◌≤◌}
use native.Mathlib.Omega.{arith}
use lib.Dec.{T, eqb}
use lib.ListN.{length, get_or}
use lib.Ieee.Fits.{and_l, and_r}
use borrow.Author.Tests.{eqb-true}
use Rattle.rules.specs.Letters.{Letters, elem, word, same, some_word, one_of, is_nil}
use Rattle.rules.specs.TakingApart.{Row, rows, some_row, is_this, could_be, listed, some_agrees, stands, takes, agrees}
use Rattle.syllable.specs.Numbers.{num, nums, packed, Packs, short, Numbers, plain_of}
use Rattle.syllable.specs.Nuclei.{nuclei_of, no_row, row_in, row_of, with_bases_in, with_bases}
use Rattle.rules.proofs.Tests.{is_true}
use Rattle.rules.proofs.Bools.{pick, if_so, only, and_false, or_is, eqb_case}
use Rattle.syllable.proofs.PackedWords.{shorts, same_is, one_is, table_packs}
use Rattle.syllable.proofs.Rows.{row_number, row, row_is}
use Rattle.syllable.proofs.Agreements.{agree_is, bases}

-- a rule of a nucleus in its row
abbrev pub in_its_row : (Row → Letters → Bool) → Letters → Bool
in_its_row f z = f (row_of z) z

-- the rows stand in their places, and each nucleus is found in its row: the one test over the table
abbrev Placed : ℕ → List Row → Type 0
Placed i [] = Unit {0}
Placed i (r ∷ rs) = (row i ≡ r) × Placed (suc i) rs

abbrev found_in : ℕ → List Letters → Bool
found_in i [] = true
found_in i (z ∷ zs) = (short z && eqb (row_number (num z) rows) i) && found_in i zs

abbrev all_found : ℕ → List Row → Bool
all_found i [] = true
all_found i (r ∷ rs) = found_in i r.nuclei && all_found (suc i) rs

pub all_found_law : T (all_found 0 rows)
all_found_law = tt

some_append : (g : Letters → Bool) (xs ys : List Letters) → some_word g (xs ++ ys) ≡ pick true (some_word g xs) (some_word g ys)
some_append g [] ys = refl
some_append g (x ∷ xs) ys = go (g x) (some_append g xs ys)
  where
    go : (b : Bool) → some_word g (xs ++ ys) ≡ pick true (some_word g xs) (some_word g ys) → pick true b (some_word g (xs ++ ys)) ≡ pick true (pick true b (some_word g xs)) (some_word g ys)
    go true e = refl
    go false e = e

module _ (f : Row → Letters → Bool) where
  of_row : (i : ℕ) (r : Row) → row i ≡ r → (zs : List Letters) → T (found_in i zs) → some_word (f r) zs ≡ some_word (in_its_row f) zs
  of_row i r e [] t = refl
  of_row i r e (z ∷ zs) t =
      let h = and_l (short z && eqb (row_number (num z) rows) i) (found_in i zs) t in
      let n : Numbers (num z) z = record { is = refl; short = and_l (short z) (eqb (row_number (num z) rows) i) h } in
      let p : row_number (num z) rows ≡ i = eqb-true _ _ (is_true _ (and_r (short z) (eqb (row_number (num z) rows) i) h)) in
      (λ j. pick true (f (sym (row_is (table_packs n) i p ∙ e) j) z) (of_row i r e zs (and_r (short z && eqb (row_number (num z) rows) i) (found_in i zs) t) j))

  of_rows : (i : ℕ) (rs : List Row) → Placed i rs → T (all_found i rs) → some_row f rs ≡ some_word (in_its_row f) (nuclei_of rs)
  of_rows i [] h t = refl
  of_rows i (r ∷ rs) h t =
      ap₂ (pick true) (of_row i r h.0 r.nuclei (and_l (found_in i r.nuclei) (all_found (suc i) rs) t)) (of_rows (suc i) rs h.1 (and_r (found_in i r.nuclei) (all_found (suc i) rs) t)) ∙ sym (some_append (in_its_row f) r.nuclei (nuclei_of rs))

  some_nucleus : some_row f rows ≡ some_word (in_its_row f) (nuclei_of rows)
  some_nucleus = of_rows 0 rows (refl, (refl, (refl, (refl, (refl, (refl, (refl, (refl, tt)))))))) all_found_law

-- exactly this one
module _ {p : ℕ} {v : Letters} (c : Packs p v) (w f : Letters) (b : Bool) (here : (z : Letters) → Numbers p z → b ≡ (stands w z && takes w (row_of z) z f)) where
  this : (zs : List Letters) → T (shorts zs) → some_word (in_its_row (is_this w v f)) zs ≡ if_so (one_of v zs) b
  this [] t = refl
  this (z ∷ zs) t = go (same v z) refl (this zs (and_r (short z) (shorts zs) t))
    where
      again : (x o : Bool) → pick true x (if_so o x) ≡ x
      again true o = refl
      again false true = refl
      again false false = refl

      go : (s : Bool) → same v z ≡ s → some_word (in_its_row (is_this w v f)) zs ≡ if_so (one_of v zs) b → pick true (if_so s (stands w z && takes w (row_of z) z f)) (some_word (in_its_row (is_this w v f)) zs) ≡ if_so (pick true s (one_of v zs)) b
      go false e r = r
      go true e r =
          let n : Numbers p z = record { is = eqb-true p (num z) (same_is c z (and_l (short z) (shorts zs) t) ∙ e); short = and_l (short z) (shorts zs) t } in
          ap (λ (x : Bool). pick true x (some_word (in_its_row (is_this w v f)) zs)) (sym (here z n)) ∙ (λ j. pick true b (r j)) ∙ again b (one_of v zs)

  pub listed_is : (one_of v (nuclei_of rows) ≡ false → b ≡ false) → b ≡ listed w v f
  unfolding listed
  listed_is none = go (one_of v (nuclei_of rows)) refl ∙ sym (some_nucleus (is_this w v f) ∙ this (nuclei_of rows) tt)
    where
      go : (o : Bool) → one_of v (nuclei_of rows) ≡ o → b ≡ if_so o b
      go true e = refl
      go false e = none e

-- what is in no row takes no final
no_row_law : (v : Letters) (rs : List Row) → one_of v (nuclei_of rs) ≡ false → row_in v rs ≡ no_row
no_row_law v [] e = refl
no_row_law v (r ∷ rs) e = go (one_of v r.nuclei) (sym (some_append (same v) r.nuclei (nuclei_of rs)) ∙ e) (no_row_law v rs)
  where
    go : (o : Bool) → pick true o (one_of v (nuclei_of rs)) ≡ false → (one_of v (nuclei_of rs) ≡ false → row_in v rs ≡ no_row) → pick r o (row_in v rs) ≡ no_row
    go true h f = let z : ◌≡◌ {A = ℕ} 0 1 = cc in absurd (omega arith)
    go false h f = f h

pub takes_none : {p : ℕ} {v : Letters} → Packs p v → (w f : Letters) → one_of v (nuclei_of rows) ≡ false → takes w (row_of v) v f ≡ false
unfolding row_of
takes_none {p} {v} c w f e =
    ap (λ (r : Row). takes w r v f) (no_row_law v rows e) ∙ (λ j. ((is_nil f && false) || false) || (same w (word "gi") && (not_ê j && same f (word "ng")))) ∙ (λ j. (sym (and_false (is_nil f)) j || false) || sym (and_false (same w (word "gi"))) j)
  where
    not_ê : same v (word "ê") ≡ false
    not_ê =
        sym (same_is c (word "ê") tt) ∙ eqb_case (λ b. b ≡ false) p (num (word "ê")) (λ h. ap (λ (n : ℕ). elem n (nums (nuclei_of rows))) (sym h) ∙ one_is c (nuclei_of rows) tt ∙ e) (λ _. refl)

-- some one: those with the same base letters are asked, in their order
module _ (g : Letters → Bool) (p : ℕ) where
  some_with : (zs : List Letters) → ((z : Letters) → T (short z) → (p ≡ plain_of (num z) → ⊥) → g z ≡ false) → T (shorts zs) → some_word g zs ≡ some_word g (with_bases_in p zs)
  some_with [] h t = refl
  some_with (z ∷ zs) h t =
      let r = some_with zs h (and_r (short z) (shorts zs) t) in
      eqb_case (λ b. pick true (g z) (some_word g zs) ≡ some_word g (pick (z ∷ with_bases_in p zs) b (with_bases_in p zs))) p (plain_of (num z)) (λ _. ap (pick true (g z)) r)
      (λ n. ap (λ (b : Bool). pick true b (some_word g zs)) (h z (and_l (short z) (shorts zs) t) n) ∙ r)

of_three : (g : Letters → Bool) (zs : List Letters) → length zs ≤ 3 → g [] ≡ false → some_word g zs ≡ (g (get_or zs 0 []) || (g (get_or zs 1 []) || g (get_or zs 2 [])))
of_three g [] h e = λ j. sym e j || (sym e j || sym e j)
of_three g (x ∷ []) h e = or_is (g x) false ∙ (λ j. g x || (sym e j || sym e j))
of_three g (x ∷ y ∷ []) h e = or_is (g x) (pick true (g y) false) ∙ (λ j. g x || (or_is (g y) false j)) ∙ (λ j. g x || (g y || sym e j))
of_three g (x ∷ y ∷ z ∷ []) h e = or_is (g x) (pick true (g y) (pick true (g z) false)) ∙ (λ j. g x || or_is (g y) (sym (only (g z)) j) j)
of_three g (x ∷ y ∷ z ∷ t ∷ ts) h e = absurd (omega arith)

module _ {p : ℕ} {v : Letters} (c : Packs p v) (w f : Letters) where
  others : (z : Letters) → T (short z) → (plain_of p ≡ plain_of (num z) → ⊥) → could_be w v f (row_of z) z ≡ false
  others z s n = go (agrees v z) refl
    where
      go : (b : Bool) → agrees v z ≡ b → if_so b (stands w z && (is_nil f || takes w (row_of z) z f)) ≡ false
      go false e = refl
      go true e = absurd (n (bases p (num z) (subst T (sym (agree_is c (record { is = refl; short = s }) ∙ e)) tt)))

  nothing : (p ≡ 0 → ⊥) → could_be w v f (row_of []) [] ≡ false
  nothing n = go v c.is
    where
      go : (u : Letters) → p ≡ packed u → could_be w u f (row_of []) [] ≡ false
      go [] e = absurd (n e)
      go (x ∷ xs) e = refl

  -- an empty nucleus agrees with none
  pub empty : p ≡ 0 → false ≡ some_agrees w v f
  unfolding some_agrees
  empty e =
      sym (some_nucleus (could_be w v f) ∙ some_with (in_its_row (could_be w v f)) (plain_of p) (nuclei_of rows) others tt ∙ ap (λ (n : ℕ). some_word (in_its_row (could_be w v f)) (with_bases_in (plain_of n) (nuclei_of rows))) e)

  -- the three that are asked
  pub some_is : (q : ℕ) → q ≡ plain_of p → (p ≡ 0 → ⊥) → length (with_bases q) ≤ 3 →
      (could_be w v f (row_of (get_or (with_bases q) 0 [])) (get_or (with_bases q) 0 []) || (could_be w v f (row_of (get_or (with_bases q) 1 [])) (get_or (with_bases q) 1 []) || could_be w v f (row_of (get_or (with_bases q) 2 [])) (get_or (with_bases q) 2 []))) ≡ some_agrees w v f
  unfolding some_agrees with_bases
  some_is q e n l =
      sym (some_nucleus (could_be w v f) ∙ some_with (in_its_row (could_be w v f)) q (nuclei_of rows) (λ z s h. others z s (λ r. h (e ∙ r))) tt ∙ of_three (in_its_row (could_be w v f)) (with_bases q) l (nothing n))
