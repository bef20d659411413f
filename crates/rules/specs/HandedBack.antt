-- 16 What commit may hand back (docs/RULES.md): the words in which the promise on commit is stated.
use Rattle.std.specs.Prelude.{◌≡◌, List, ℕ, T}
use Rattle.rules.specs.TheWord.{Typed}
use Rattle.rules.specs.TakingApart.{verdict}
use Rattle.rules.specs.Decision.{starts_with_đ}
use Rattle.rules.specs.CodePoints.{shown}
use Rattle.rules.specs.WhatComesBack.{typed}

-- 16.1 A shown text is kept because its word is valid, is closed or starts with đ, or because none of its keys acted
-- or undid.
pub data KeptSince (z : Typed) : Type 0 where
  valid : verdict z.state.letters z.state.tone ≡ 0 → KeptSince z
  closed : T z.state.closed → KeptSince z
  with_đ : T (starts_with_đ z.state.letters) → KeptSince z
  untouched : z.acted ≡ 0 → z.undone ≡ 0 → KeptSince z

-- 16.2 Where commit is not refused it hands back the keys, or the text that they show, kept for one of these reasons.
pub data HandedBack (m : ℕ) (ks : List ℕ) (part : List ℕ) : Type 0 where
  the_keys : part ≡ ks → HandedBack m ks part
  the_text : part ≡ shown (typed m ks).state → KeptSince (typed m ks) → HandedBack m ks part
