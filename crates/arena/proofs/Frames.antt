-- What a list of records is after words elsewhere change: the same links, chain and true p.
-- Links read levels and forwards alone, and true p levels, p and adjusts alone, so each follows by recursion on the list.
use Rattle.std.proofs.Common.{◌≡◌, ℕ, ◌+◌, ◌%◌, ◌^◌, ◌<◌, ◌≤◌, Bool, cond, ltb, List, [], ◌∷◌, map, length, sym, refl, ap, ◌∙◌, ap₂, arith, le-ltb, lt-ltb}
use Rattle.arena.specs.Arena.{level, p_word, forward, adjust}
use Rattle.arena.specs.Lazy.{next_with, last_with, sum_from}
use Rattle.arena.specs.inside.Chain.{Has, All, Away, Ending, closed, growing, Right, LinksOf, MemberOf, ChainOf, LinkedOf, Chain, p_under, after, trues, Same, Shape, Value}
use Rattle.arena.specs.inside.Built.{Built}
use Rattle.arena.proofs.Cases.{lt_or_ge}
use Rattle.arena.proofs.SumLaws.{sum_agree, sum_frame}

pub all_map : {P Q : ℕ → Type 0} (rs : List ℕ) → ((x : ℕ) → P x → Q x) → All P rs → All Q rs
all_map [] f p = tt
all_map (r ∷ rs) f p = (f r p.0, all_map rs f p.1)

pub all_refl : {P : ℕ → Type 0} (rs : List ℕ) → ((x : ℕ) → P x) → All P rs
all_refl [] f = tt
all_refl (r ∷ rs) f = (f r, all_refl rs f)

pub all_both : {P Q R : ℕ → Type 0} (rs : List ℕ) → ((x : ℕ) → P x → Q x → R x) → All P rs → All Q rs → All R rs
all_both [] f p q = tt
all_both (r ∷ rs) f p q = (f r p.0 q.0, all_both rs f p.1 q.1)

pub map_same : (f g : ℕ → ℕ) (rs : List ℕ) → All (λ x. f x ≡ g x) rs → map f rs ≡ map g rs
map_same f g [] e = refl
map_same f g (r ∷ rs) e = ap₂ ◌∷◌ e.0 (map_same f g rs e.1)

pub same_shape : (a b : List ℕ) (x : ℕ) → Same a b x → Shape a b x
same_shape a b x s =
    record {
      level_kept = s.at 0 (omega arith);
      m_kept = s.at 1 (omega arith);
      forward_kept = λ k p. s.at (3 + k) (omega arith);
    }

pub same_value : (a b : List ℕ) (x : ℕ) → Same a b x → Value a b x
same_value a b x s =
    record {
      level_kept = s.at 0 (omega arith);
      p_kept = s.at 2 (omega arith);
      adjust_kept = λ k p. s.at (11 + k) (omega arith);
    }

module _ (a : List ℕ) (k r : ℕ) (rs : List ℕ) where
  pub next_here : k < level a r → next_with a k (r ∷ rs) ≡ r
  unfolding next_with
  next_here p = ap (λ (t : Bool). cond t r (next_with a k rs)) (lt-ltb k (level a r) p)

  pub next_past : level a r ≤ k → next_with a k (r ∷ rs) ≡ next_with a k rs
  unfolding next_with
  next_past p = ap (λ (t : Bool). cond t r (next_with a k rs)) (le-ltb k (level a r) p)

pub next_frame : (a b : List ℕ) (k : ℕ) (rs : List ℕ) → All (λ x. level b x ≡ level a x) rs → next_with b k rs ≡ next_with a k rs
unfolding next_with
next_frame a b k [] e = refl
next_frame a b k (r ∷ rs) e = ap₂ (λ (l : ℕ) (x : ℕ). cond (ltb k l) r x) e.0 (next_frame a b k rs e.1)

pub last_frame : (a b : List ℕ) (k h : ℕ) (rs : List ℕ) → All (λ x. level b x ≡ level a x) rs → last_with b k h rs ≡ last_with a k h rs
unfolding last_with
last_frame a b k h [] e = refl
last_frame a b k h (r ∷ rs) e =
    ap (λ (l : ℕ). last_with b k (cond (ltb k l) r h) rs) e.0
    ∙ last_frame a b k (cond (ltb k (level a r)) r h) rs e.1

levels_kept : (a b : List ℕ) (rs : List ℕ) → All (Shape a b) rs → All (λ x. level b x ≡ level a x) rs
levels_kept a b rs s = all_map rs (λ x t. t.level_kept) s

-- A forward and the next record that are as they were.
right_kept : (e : Ending) (x y x' y' : ℕ) → x' ≡ x → y' ≡ y → Right e x y → Right e x' y'
right_kept closed x y x' y' p q r = p ∙ r ∙ sym q
right_kept growing x y x' y' p q r = λ some. p ∙ r (omega arith) ∙ sym q

links_frame : (e : Ending) (a b : List ℕ) (r : ℕ) (rs : List ℕ) → level a r ≤ 8 → Shape a b r → All (Shape a b) rs → LinksOf e a r rs → LinksOf e b r rs
links_frame e a b r rs high s t l =
    let same = s.level_kept in
    record {
      at = λ k p.
          right_kept e (forward a r k) (next_with a k rs) (forward b r k) (next_with b k rs) (s.forward_kept k (omega arith))
          (next_frame a b k rs (levels_kept a b rs t)) (l.at k (omega arith));
    }

-- A record of a list stands before other records where it keeps its level, has the right links and is none of them.
pub member_before : {d e : Ending} (a b : List ℕ) (r : ℕ) {rs ss : List ℕ} → length b ≡ length a → level b r ≡ level a r → MemberOf d a r rs → LinksOf e b r ss → Away r ss → MemberOf e b r ss
member_before a b r long same m links away =
    let has = m.has in
    let low = m.low in
    let high = m.high in
    record { some = m.some; has = omega arith; low = omega arith; high = omega arith; links = links; away = away }

pub chain_of_frame : (e : Ending) (a b : List ℕ) (rs : List ℕ) → length b ≡ length a → All (Shape a b) rs → ChainOf e a rs → ChainOf e b rs
chain_of_frame e a b [] long s c = tt
chain_of_frame e a b (r ∷ rs) long s c =
    let m = c.0 in (
      member_before a b r long s.0.level_kept m (links_frame e a b r rs m.high s.0 s.1 m.links) m.away,
      chain_of_frame e a b rs long s.1 c.1,
    )

pub chain_frame : (a b : List ℕ) (rs : List ℕ) → length b ≡ length a → All (Shape a b) rs → Chain a rs → Chain b rs
chain_frame = chain_of_frame closed

-- What each record of a list is.
pub chain_low : (e : Ending) (a : List ℕ) (rs : List ℕ) → ChainOf e a rs → All (λ x. 1 ≤ level a x) rs
chain_low e a [] c = tt
chain_low e a (r ∷ rs) c = (c.0.low, chain_low e a rs c.1)

pub chain_some : (e : Ending) (a : List ℕ) (rs : List ℕ) → ChainOf e a rs → All (λ x. 1 ≤ x) rs
chain_some e a [] c = tt
chain_some e a (r ∷ rs) c = (c.0.some, chain_some e a rs c.1)

pub chain_has : (e : Ending) (a : List ℕ) (rs : List ℕ) → ChainOf e a rs → All (λ x. Has a x) rs
chain_has e a [] c = tt
chain_has e a (r ∷ rs) c = (c.0.has, chain_has e a rs c.1)

pub linked_frame : {e : Ending} (a b : List ℕ) (h : ℕ) (rs : List ℕ) → length b ≡ length a → Shape a b h → All (Shape a b) rs → LinkedOf e a h rs → LinkedOf e b h rs
linked_frame {e} a b h rs long s t l =
    let top = l.top in
    let has = l.has in
    record {
      has = omega arith;
      top = s.level_kept ∙ top;
      links = links_frame e a b h rs (omega arith) s t l.links;
      away = l.away;
      chain = chain_of_frame e a b rs long t l.chain;
    }

pub built_frame : (a b : List ℕ) (h : ℕ) (rs : List ℕ) → length b ≡ length a → Same a b h → All (Same a b) rs → Built a h rs → Built b h rs
built_frame a b h rs long s t built =
    record {
      linked = linked_frame a b h rs long (same_shape a b h s) (all_map rs (same_shape a b) t) built.linked;
      still = λ k p. s.at (11 + k) (omega arith) ∙ built.still k p;
    }

-- The sums after a record: its own adjusts at the links that it has, and above them those that entered.
module _ (a : List ℕ) (f : ℕ → ℕ) (r k : ℕ) where
  pub after_in : k < level a r → after a f r k ≡ adjust a r k
  unfolding after
  after_in h = simp (lt-ltb k (level a r) h)

  pub after_out : level a r ≤ k → after a f r k ≡ f k
  unfolding after
  after_out h = simp (le-ltb k (level a r) h)

module _ (a b : List ℕ) (f g : ℕ → ℕ) (e : (k : ℕ) → k < 8 → g k ≡ f k) where
  pub under_frame : (r : ℕ) → level b r ≡ level a r → p_word b r ≡ p_word a r → p_under b g r ≡ p_under a f r
  unfolding p_under
  under_frame r l p =
      ap₂ (λ (x : ℕ) (y : ℕ). (x + y) % 2 ^ 32) p (ap (λ (n : ℕ). sum_from g n 8) l ∙ sum_frame f g (level a r) 8 e)

  pub after_frame : (r : ℕ) → Value a b r → (k : ℕ) → k < 8 → after b g r k ≡ after a f r k
  unfolding after
  after_frame r v k p =
      ap (λ (n : ℕ). cond (ltb k n) (adjust b r k) (g k)) v.level_kept
      ∙ ap₂ (λ (x : ℕ) (y : ℕ). cond (ltb k (level a r)) x y) (v.adjust_kept k p) (e k p)

pub trues_frame : (a b : List ℕ) (f g : ℕ → ℕ) (rs : List ℕ) → ((k : ℕ) → k < 8 → g k ≡ f k) → All (Value a b) rs → trues b g rs ≡ trues a f rs
unfolding trues
trues_frame a b f g [] e v = refl
trues_frame a b f g (r ∷ rs) e v =
    ap₂ ◌∷◌ (under_frame a b f g e r v.0.level_kept v.0.p_kept)
    (trues_frame a b (after a f r) (after b g r) rs (after_frame a b f g e r v.0) v.1)

-- Sums that agree from link 1 up agree so after a record.
after_agree : (a : List ℕ) (f g : ℕ → ℕ) (r : ℕ) → ((k : ℕ) → 1 ≤ k → k < 8 → g k ≡ f k) → (k : ℕ) → 1 ≤ k → k < 8 → after a g r k ≡ after a f r k
after_agree a f g r e k low high =
    lt_or_ge k (level a r) (λ p. after_in a g r k p ∙ sym (after_in a f r k p))
    (λ p. after_out a g r k p ∙ e k low high ∙ sym (after_out a f r k p))

-- Link 0 counts for no true p, since a record has a level of 1 or more: sums that agree from link 1 up give the same.
pub lowest_free : (a : List ℕ) (f g : ℕ → ℕ) (rs : List ℕ) → All (λ x. 1 ≤ level a x) rs → ((k : ℕ) → 1 ≤ k → k < 8 → g k ≡ f k) → trues a g rs ≡ trues a f rs
unfolding trues p_under
lowest_free a f g [] low e = refl
lowest_free a f g (r ∷ rs) low e =
    let some = low.0 in
    ap₂ ◌∷◌
    (ap (λ (s : ℕ). (p_word a r + s) % 2 ^ 32) (sum_agree f g (level a r) 8 (λ k from high. e k (omega arith) high)))
    (lowest_free a (after a f r) (after a g r) rs low.1 (after_agree a f g r e))
