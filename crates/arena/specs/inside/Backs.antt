-- The way back along a list, beside its links: when the back words of its records and of its head are right. No public contract cites it.
use Rattle.std.specs.Prelude.{◌≡◌, ℕ, List, [], ◌∷◌, ◌++◌}
use Rattle.arena.specs.Arena.{back}

-- The back word of each of rs is the record before it, and that of the first is `before`.
abbrev pub Backs : List ℕ → ℕ → List ℕ → Type 0
Backs a before [] = Unit {0}
Backs a before (r ∷ rs) = (back a r ≡ before) × Backs a r rs

-- The same but for the first of rs, whose back word is free.
abbrev pub Inner : List ℕ → List ℕ → Type 0
Inner a [] = Unit {0}
Inner a (r ∷ rs) = Backs a r rs

-- Every back word is as it was.
abbrev pub BacksKept : List ℕ → List ℕ → Type 0
BacksKept a b = (x : ℕ) → back b x ≡ back a x

-- A run fr of a list has gone behind the list cs of the head hc, and the rest is left: the way back is right along both if it was along each.
abbrev pub WayBack : (a b : List ℕ) (hc : ℕ) (cs fr rest : List ℕ) → Type 0
WayBack a b hc cs fr rest = Inner a (fr ++ rest) → Backs a hc cs → Backs b hc (cs ++ fr) × Inner b rest

-- The last of rs, or `before` where there is none.
unfoldable pub last_of : ℕ → List ℕ → ℕ
last_of before [] = before
last_of before (r ∷ rs) = last_of r rs

-- The back words of the list rs of the head h are right.
pub record Backed (a : List ℕ) (h : ℕ) (rs : List ℕ) : Type 0 where
  pub backs : Backs a 0 rs
  pub head : back a h ≡ last_of 0 rs
