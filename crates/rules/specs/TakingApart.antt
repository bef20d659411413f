-- 7 Taking a word apart (docs/RULES.md): its parts, the initials, finals and nuclei, the verdict, and which letters are admitted.
use Rattle.std.specs.Prelude.{Bool, true, false, not, ◌&&◌, ◌||◌, List, [], ◌∷◌, ◌++◌, ℕ, eqb}
use Prim.Native.Char.{code}
use Prim.Native.String.{String}
use Rattle.rules.specs.Letters.{Letter, Letters, plain, acute, dot, elem, among, word, words, same, some_word, one_of, is_nil, first_base}

-- 7.1 The vowel letters are a, e, i, o, u and y, whatever their shape.
abbrev pub vowel : ℕ → Bool
vowel b = among b "aeiouy"

-- 7.2 A word is cut where vowel letters and other letters meet; each run is as long as it can be.
abbrev pub is_kind : Bool → ℕ → Bool
is_kind true b = vowel b
is_kind false b = not (vowel b)

-- the run of one kind at the front, and what stands past it
abbrev pub front_if : Bool → Letter → Letters → Letters
front_if true x w = x ∷ w
front_if false x w = []

abbrev pub front : Bool → Letters → Letters
front v [] = []
front v (x ∷ xs) = front_if (is_kind v x.base) x (front v xs)

abbrev pub past_if : Bool → Letter → Letters → Letters → Letters
past_if true x xs w = w
past_if false x xs w = x ∷ xs

abbrev pub past : Bool → Letters → Letters
past v [] = []
past v (x ∷ xs) = past_if (is_kind v x.base) x xs (past v xs)

-- 7.3 First comes the run before the first vowel letter, which may be empty, then the run of vowel letters.
abbrev pub before : Letters → Letters
before w = front false w

abbrev pub run : Letters → Letters
run w = front true (past false w)

-- 7.4 The initial is what stands before the first vowel letter. Where that is q alone and a u without a shape
-- follows, the initial is qu; where it is g alone and an i and one more vowel letter follow, it is gi.
abbrev pub plain_u : Letters → Bool
plain_u [] = false
plain_u (x ∷ xs) = eqb x.base (code "u") && eqb x.shape plain

abbrev pub i_and_another : Letters → Bool
i_and_another [] = false
i_and_another (x ∷ xs) = eqb x.base (code "i") && not (is_nil xs)

unfoldable pub joins : Letters → Letters → Bool
joins w v = (same w (word "q") && plain_u v) || (same w (word "g") && i_and_another v)

abbrev pub with_first : Letters → Letters → Letters
with_first w [] = w
with_first w (x ∷ xs) = w ++ (x ∷ [])

abbrev pub rest : Letters → Letters
rest [] = []
rest (x ∷ xs) = xs

abbrev pub initial_of : Bool → Letters → Letters → Letters
initial_of true w v = with_first w v
initial_of false w v = w

abbrev pub nucleus_of : Bool → Letters → Letters
nucleus_of true v = rest v
nucleus_of false v = v

unfoldable pub initial : Letters → Letters
initial w = initial_of (joins (before w) (run w)) (before w) (run w)

-- 7.5 The nucleus is the run of vowel letters, less the one that the initial took.
unfoldable pub nucleus : Letters → Letters
nucleus w = nucleus_of (joins (before w) (run w)) (run w)

-- 7.6 The final is the run of other letters directly after the vowel letters.
unfoldable pub final : Letters → Letters
final w = front false (past true (past false w))

-- 7.7 The leftovers are all letters behind the final.
unfoldable pub leftovers : Letters → Letters
leftovers w = past false (past true (past false w))

-- 7.8 The initial may be empty, or one of these 27: b c d đ g h k l m n p r s t v x ch gh gi kh ng nh ph qu th tr
-- ngh.
abbrev pub initials : List Letters
initials = [] ∷ words "b c d đ g h k l m n p r s t v x ch gh gi kh ng nh ph qu th tr ngh"

-- 7.9 The first letter of the nucleus, by its base: after c and ng no e, i or y; after g no e or y; after k only e, i
-- or y; after gh and ngh only e or i; after gi no i or y; after qu no u.
abbrev pub implies : Bool → Bool → Bool
implies p q = not p || q

unfoldable pub fit : Letters → ℕ → Bool
fit ini v =
    implies (one_of ini (words "c ng")) (not (among v "eiy")) &&
    (implies (same ini (word "g")) (not (among v "ey")) &&
    (implies (same ini (word "k")) (among v "eiy") &&
    (implies (one_of ini (words "gh ngh")) (among v "ei") &&
    (implies (same ini (word "gi")) (not (among v "iy")) &&
    implies (same ini (word "qu")) (not (among v "u"))))))

-- 7.10 The final may be empty, or one of these 8: c ch m n ng nh p t.
abbrev pub finals : List Letters
finals = [] ∷ words "c ch m n ng nh p t"

-- 7.11 There are 55 nuclei, in eight rows; a row has the finals that its nuclei take, and says whether it is open.
pub record Row : Type 0 where
  pub nuclei : List Letters
  pub ends : List Letters
  pub bare : Bool

abbrev row : String → String → Bool → Row
row nuclei ends bare = record { nuclei = words nuclei; ends = words ends; bare = bare }

abbrev pub rows : List Row
rows =
    row "a oa" "c ch m n ng nh p t" true ∷
    row "e o ô u ư oe" "c m n ng p t" true ∷
    row "ă â oă uâ iê yê uô ươ" "c m n ng p t" false ∷
    row "i ê uê" "ch m n nh p t" true ∷
    row "ơ" "m n p t" true ∷
    row "y uy" "ch n nh p t" true ∷
    row "uyê" "n t" false ∷
    row "ai ao au ay âu ây eo êu ia iu oi ôi ơi ua ui ưa ưi ưu iêu yêu oai oay oeo uây uôi uya ươi ươu uyu uêu oao uơ" "" true ∷
    []

-- 7.12 A nucleus takes the finals of its row. It takes an empty final where its row is open.
abbrev pub in_row : Row → Letters → Bool
in_row r fin = (is_nil fin && r.bare) || one_of fin r.ends

-- 7.13 Besides, ê takes the final ng after the initial gi.
abbrev pub takes : Letters → Row → Letters → Letters → Bool
takes ini r z fin = in_row r fin || (same ini (word "gi") && (same z (word "ê") && same fin (word "ng")))

-- 7.14 The nuclei yê and yêu stand in a word without an initial or after qu, and after no other initial. After qu a
-- nucleus of two letters or more may not begin with an o, in whatever shape. The nucleus uơ stands after h, kh and th
-- alone.
abbrev pub two_or_more : Letters → Bool
two_or_more [] = false
two_or_more (x ∷ xs) = not (is_nil xs)

abbrev pub stands : Letters → Letters → Bool
stands ini z =
    implies (one_of z (words "yê yêu")) (is_nil ini || same ini (word "qu")) &&
    (not (same ini (word "qu") && (two_or_more z && eqb (first_base z) (code "o"))) && implies (same z (word "uơ")) (one_of ini (words "h kh th")))

-- 7.15 A question to the table is put to every nucleus of every row, and one yes is enough.
abbrev pub some_row : (Row → Letters → Bool) → List Row → Bool
some_row f [] = false
some_row f (r ∷ rs) = elim (some_word (f r) r.nuclei) [ true ↦ true | false ↦ some_row f rs ]

-- 7.16 A nucleus is listed, between its initial and its final, when it is in the table, letter by letter and shape by
-- shape, stands after this initial and takes this final.
abbrev pub is_this : Letters → Letters → Letters → Row → Letters → Bool
is_this ini nuc fin r z = elim (same nuc z) [ true ↦ stands ini z && takes ini r z fin | false ↦ false ]

unfoldable pub listed : Letters → Letters → Letters → Bool
listed ini nuc fin = some_row (is_this ini nuc fin) rows

-- 7.17 The stops are the finals c, ch, p and t. A tone fits a final that is no stop; the tones 1 and 5 fit every
-- final.
abbrev pub stop : Letters → Bool
stop fin = one_of fin (words "c ch p t")

unfoldable pub fits : Letters → ℕ → Bool
fits fin tone = elem tone (acute ∷ dot ∷ []) || not (stop fin)

-- 7.18 Checks are asked in their order. The number of the first that holds is the answer, and 0 where none does.
pub record Check : Type 0 where
  pub number : ℕ
  pub holds : Bool

abbrev pub check : ℕ → Bool → Check
check n b = record { number = n; holds = b }

abbrev pub first_that_holds : List Check → ℕ
first_that_holds [] = 0
first_that_holds (c ∷ cs) = elim c.holds [ true ↦ c.number | false ↦ first_that_holds cs ]

-- 7.19 Checks 1 to 5: 1 the nucleus is empty, 2 the initial is unknown, 3 there are leftovers, 4 the initial may not
-- stand before the first letter of the nucleus, 5 the final is unknown.
abbrev pub unknown_initial : Letters → Check
unknown_initial ini = check 2 (not (one_of ini initials))

abbrev pub unfit_initial : Letters → ℕ → Check
unfit_initial ini v = check 4 (not (fit ini v))

abbrev pub one_to_five : Letters → List Check
one_to_five w =
    check 1 (is_nil (nucleus w)) ∷
    unknown_initial (initial w) ∷
    check 3 (not (is_nil (leftovers w))) ∷
    unfit_initial (initial w) (first_base (nucleus w)) ∷
    check 5 (not (one_of (final w) finals)) ∷
    []

-- 7.20 Check 6: the nucleus is not listed between this initial and this final. Check 7: the tone does not fit the
-- final.
abbrev pub six_and_seven : (allowed : Bool) → Letters → ℕ → List Check
six_and_seven allowed w tone =
    check 6 (not allowed) ∷
    check 7 (not (fits (final w) tone)) ∷
    []

-- 7.21 The verdict is the answer of the seven checks. A word with verdict 0 is valid.
unfoldable pub verdict : Letters → ℕ → ℕ
verdict w tone = first_that_holds (one_to_five w ++ six_and_seven (listed (initial w) (nucleus w) (final w)) w tone)

-- 7.22 A nucleus agrees with one of the table when both have the same bases in the same order, and each of its
-- letters that has a shape has the same one there. Its plain letters may have any shape there.
abbrev pub agrees_at : Letter → Letter → Bool
agrees_at x z = eqb x.base z.base && (eqb x.shape plain || eqb x.shape z.shape)

abbrev pub agrees : Letters → Letters → Bool
agrees [] [] = true
agrees [] (z ∷ zs) = false
agrees (x ∷ xs) [] = false
agrees (x ∷ xs) (z ∷ zs) = elim (agrees_at x z) [ true ↦ agrees xs zs | false ↦ false ]

-- 7.23 Letters are admitted when checks 1 to 5 pass and their nucleus agrees with one of the table that stands after
-- this initial and takes this final. Here every nucleus takes an empty final, and the tone is not asked.
abbrev pub could_be : Letters → Letters → Letters → Row → Letters → Bool
could_be ini nuc fin r z = elim (agrees nuc z) [ true ↦ stands ini z && (is_nil fin || takes ini r z fin) | false ↦ false ]

unfoldable pub some_agrees : Letters → Letters → Letters → Bool
some_agrees ini nuc fin = some_row (could_be ini nuc fin) rows

unfoldable pub admitted : Letters → Bool
admitted w = elim (eqb (first_that_holds (one_to_five w)) 0) [ true ↦ some_agrees (initial w) (nucleus w) (final w) | false ↦ false ]
