-- A list is its records in front and those behind, so that what holds of every record holds of both.
-- Each goes by the records in turn: those not below the key are in front, up to the first that is.
use Rattle.std.proofs.Common.{◌≡◌, ℕ, ◌+◌, ◌<◌, ◌≤◌, List, [], ◌∷◌, ◌++◌, length, sym, refl, ap, ◌∙◌, subst, arith, length-append, le-leb}
use borrow.Author.Tests.{lt-leb}
use Rattle.arena.specs.Arena.{m_word}
use Rattle.arena.specs.inside.Chain.{All}
use Rattle.arena.proofs.Cases.{lt_or_ge}
use Rattle.arena.proofs.ListLaws.{all_left, all_right}
use Rattle.searching.specs.declared.search.Cut.{Cut}
use Rattle.searching.specs.inside.Cut.{front, behind, LinkCount, CutAt}
use Rattle.searching.proofs.SearchLaws.{front_in}

pub front_behind : (a : List ℕ) (key : ℕ) (rs : List ℕ) → rs ≡ front a key rs ++ behind a key rs
unfolding front behind
front_behind a key [] = refl
front_behind a key (r ∷ rs) =
    lt_or_ge (m_word a r) key (λ h. simp (lt-leb key (m_word a r) h))
    (λ h. simp (le-leb key (m_word a r) h) (ap (λ (l : List ℕ). r ∷ l) (front_behind a key rs)))

-- The rest is shorter where the first record is in front.
pub behind_shorter : (a : List ℕ) (key r : ℕ) (rs : List ℕ) → key ≤ m_word a r → length (behind a key (r ∷ rs)) < length (r ∷ rs)
behind_shorter a key r rs tops =
    let whole : length (r ∷ rs) ≡ length (front a key (r ∷ rs)) + length (behind a key (r ∷ rs)) = ap length (front_behind a key (r ∷ rs)) ∙ length-append (front a key (r ∷ rs)) (behind a key (r ∷ rs)) in
    let some : 1 ≤ length (front a key (r ∷ rs)) = subst (λ (l : List ℕ). 1 ≤ length l) (sym (front_in a key r rs tops)) (omega arith) in
    omega arith

-- What holds of every record holds of those in front, and of those behind.
module _ (P : ℕ → Type 0) (a : List ℕ) (key : ℕ) (rs : List ℕ) (h : All P rs) where
  parted : All P (front a key rs ++ behind a key rs)
  parted = subst (All P) (front_behind a key rs) h

  pub all_front : All P (front a key rs)
  all_front = all_left P (front a key rs) (behind a key rs) parted

  pub all_behind : All P (behind a key rs)
  all_behind = all_right P (front a key rs) (behind a key rs) parted

-- A cut below as many links as were counted is a cut below its own.
pub cut_links : (a : List ℕ) (h key n : ℕ) (rs : List ℕ) (cut : Cut) → cut.links ≡ n → LinkCount a key rs n → CutAt a h key n rs cut.lasts cut.adjusts → LinkCount a key rs cut.links × CutAt a h key cut.links rs cut.lasts cut.adjusts
cut_links a h key n rs cut same counted at =
    (subst (LinkCount a key rs) (sym same) counted, subst (λ (k : ℕ). CutAt a h key k rs cut.lasts cut.adjusts) (sym same) at)
