-- What the words are after links of a record, from its highest one down, are hooked before a head's list.
-- One link changes its forward at both and its adjust at the record, and no other word.
use mathlib.Core.Path.{◌≡◌, refl, sym, subst, ◌∙◌}
use mathlib.Core.List.{List}
use Prim.Native.Nat.{ℕ, suc, ◌+◌, ◌-◌, ◌≤◌, ◌<◌}
use native.Mathlib.Omega.{arith}
use lib.ListN.{length}
use Rattle.arena.specs.Arena.{stride, word, level, forward, adjust, back_at}
use Rattle.arena.specs.inside.Chain.{Has, put}
use Rattle.building.specs.inside.Building.{hook1, Hooked, Hookable}
use Rattle.arena.proofs.Cases.{eq_or_ne}
use Rattle.arena.proofs.PutLaws.{length_put, word_same, word_other_record, word_other_field, same_refl}

hooked_none : (n : ℕ) (a : List ℕ) (h r : ℕ) → Hooked n n a h r a
hooked_none n a h r =
    record {
      long = refl;
      outside = λ x p q. same_refl a x;
      low = λ x j p. refl;
      head_new = λ k p q. absurd (omega arith);
      head_old = λ k p q. refl;
      head_adjust = λ k p. refl;
      new_forward = λ k p q. absurd (omega arith);
      new_adjust = λ k s p q. absurd (omega arith);
      old_forward = λ k p q. refl;
      old_adjust = λ k p q. refl;
      backs_kept = λ x. refl;
    }

-- The words after link n is hooked too.
module _ (b : List ℕ) (h r n : ℕ) (less : n < 8) where
  one_length : length (hook1 b h r n) ≡ length b
  unfolding hook1
  one_length = length_put _ h (3 + n) r ∙ length_put _ r (11 + n) 0 ∙ length_put b r (3 + n) _

  one_field : (x j : ℕ) → (j ≡ 3 + n → ⊥) → (j ≡ 11 + n → ⊥) → j < stride → word (hook1 b h r n) x j ≡ word b x j
  unfolding hook1
  one_field x j p q w =
      word_other_field _ h (3 + n) r x j p (omega arith) w ∙ word_other_field _ r (11 + n) 0 x j q (omega arith) w
      ∙ word_other_field b r (3 + n) _ x j p (omega arith) w

  one_outside : (x j : ℕ) → (x ≡ h → ⊥) → (x ≡ r → ⊥) → j < stride → word (hook1 b h r n) x j ≡ word b x j
  unfolding hook1
  one_outside x j p q w =
      word_other_record _ h (3 + n) r x j p (omega arith) w ∙ word_other_record _ r (11 + n) 0 x j q (omega arith) w
      ∙ word_other_record b r (3 + n) _ x j q (omega arith) w

  module _ (can : Hookable b h r) where
    one_head_new : forward (hook1 b h r n) h n ≡ r
    unfolding hook1
    one_head_new =
        let e = length_put (put b r (3 + n) (forward b h n)) r (11 + n) 0 in
        let f = length_put b r (3 + n) (forward b h n) in
        let has = can.head_has in
        word_same _ h (3 + n) r (omega arith) (omega arith)

    one_head : (j : ℕ) → (j ≡ 3 + n → ⊥) → j < stride → word (hook1 b h r n) h j ≡ word b h j
    unfolding hook1
    one_head j p w =
        let other : h ≡ r → ⊥ = λ e. can.apart (sym e) in
        word_other_field _ h (3 + n) r h j p (omega arith) w ∙ word_other_record _ r (11 + n) 0 h j other (omega arith) w
        ∙ word_other_record b r (3 + n) _ h j other (omega arith) w

    one_forward : forward (hook1 b h r n) r n ≡ forward b h n
    unfolding hook1
    one_forward =
        word_other_record _ h (3 + n) r r (3 + n) can.apart (omega arith) (omega arith)
        ∙ word_other_field _ r (11 + n) 0 r (3 + n) (λ e. omega arith) (omega arith) (omega arith)
        ∙ word_same b r (3 + n) _ can.has (omega arith)

    one_adjust : adjust (hook1 b h r n) r n ≡ 0
    unfolding hook1
    one_adjust =
        let f = length_put b r (3 + n) (forward b h n) in
        let has = can.has in
        word_other_record _ h (3 + n) r r (11 + n) can.apart (omega arith) (omega arith)
        ∙ word_same _ r (11 + n) 0 (omega arith) (omega arith)

-- One link more, below the others.
hooked_one : (m n : ℕ) (a : List ℕ) (h r : ℕ) (b : List ℕ) → m < n → n ≤ 8 → Hookable a h r → Hooked (suc m) n a h r b → Hooked m n a h r (hook1 b h r m)
hooked_one m n a h r b less few can s =
    record {
      long = one_length b h r m eight ∙ s.long;
      outside = λ x p q. record { at = λ j w. one_outside b h r m eight x j p q w ∙ (s.outside x p q).at j w };
      low = λ x j w. one_field b h r m eight x j (λ e. omega arith) (λ e. omega arith) (omega arith) ∙ s.low x j w;
      head_new =
          λ k p q. eq_or_ne k m (λ e. rw e (one_head_new b h r m eight now))
          (λ ne. one_head b h r m eight now (3 + k) (λ e. omega arith) (omega arith) ∙ s.head_new k (omega arith) q);
      head_old =
          λ k w v. one_head b h r m eight now (3 + k) (λ e. w (omega arith) (omega arith)) (omega arith)
          ∙ s.head_old k (λ p q. w (omega arith) q) v;
      head_adjust = λ k w. one_head b h r m eight now (11 + k) (λ e. omega arith) (omega arith) ∙ s.head_adjust k w;
      new_forward =
          λ k p q. eq_or_ne k m
          (λ e. rw e (one_forward b h r m eight now ∙ s.head_old m (λ i j. omega arith) eight))
          (λ ne. kept (3 + k) (λ e. omega arith) (λ e. omega arith) (omega arith) ∙ s.new_forward k (omega arith) q);
      new_adjust =
          λ k some p q. eq_or_ne k m (λ e. rw e (one_adjust b h r m eight now))
          (λ ne. kept (11 + k) (λ e. omega arith) (λ e. omega arith) (omega arith) ∙ s.new_adjust k some (omega arith) q);
      old_forward =
          λ k p q. kept (3 + k) (λ e. omega arith) (λ e. omega arith) (omega arith) ∙ s.old_forward k (omega arith) q;
      old_adjust =
          λ k p q. kept (11 + k) (λ e. omega arith) (λ e. omega arith) (omega arith) ∙ s.old_adjust k (omega arith) q;
      backs_kept =
          λ x. one_field b h r m eight x back_at (λ e. omega arith) (λ e. omega arith) (omega arith) ∙ s.backs_kept x;
    }
  where
    eight : m < 8
    eight = omega arith

    now : Hookable b h r
    now =
        let long = s.long in
        let head_has = can.head_has in
        let has = can.has in
        record { head_has = omega arith; has = omega arith; apart = can.apart; fits = can.fits }

    kept : (j : ℕ) → (j ≡ 3 + m → ⊥) → (j ≡ 11 + m → ⊥) → j < stride → word (hook1 b h r m) r j ≡ word b r j
    kept j = one_field b h r m eight r j

-- What the loop over a record's links keeps: those from l up are hooked.
pub record Prepending (a : List ℕ) (h r : ℕ) (b : List ℕ) (l : ℕ) : Type 0 where
  pub from : 1 ≤ l
  pub inside : l ≤ level a r
  pub hooks : Hooked l (level a r) a h r b

pub prepending_start : (a : List ℕ) (h r v l : ℕ) → 1 ≤ level a r → v ≡ word a r 0 → l ≡ v → Prepending a h r a l
prepending_start a h r v l low v_is l_is =
    let e : level a r ≡ l = sym (l_is ∙ v_is) in
    record {
      from = omega arith;
      inside = omega arith;
      hooks = subst (λ (n : ℕ). Hooked n (level a r) a h r a) e (hooked_none (level a r) a h r);
    }

pub prepending_more : (a : List ℕ) (h r : ℕ) (b c : List ℕ) (l : ℕ) → Hookable a h r → level a r ≤ 8 → Prepending a h r b l → 1 < l → c ≡ hook1 b h r (l - 1) → Prepending a h r c (l - 1)
prepending_more a h r b c l can high s some e =
    let back : l ≡ suc (l - 1) = omega arith in
    let inside = s.inside in
    record {
      from = omega arith;
      inside = omega arith;
      hooks =
          subst (Hooked (l - 1) (level a r) a h r) (sym e)
          (hooked_one (l - 1) (level a r) a h r b (omega arith) high can
          (subst (λ (i : ℕ). Hooked i (level a r) a h r b) back s.hooks));
    }

pub prepending_done : (a : List ℕ) (h r : ℕ) (b : List ℕ) (l : ℕ) → Prepending a h r b l → l ≤ 1 → Hooked 1 (level a r) a h r b
prepending_done a h r b l s done =
    let from = s.from in
    let one : l ≡ 1 = omega arith in
    subst (λ (i : ℕ). Hooked i (level a r) a h r b) one s.hooks

-- Where the links from 1 up are hooked, and the head's first forward stands beside the arena: it is `first` before, which the record takes over, and the record after. With that forward stored before and after, all links are hooked.
pub hooked_all : (n : ℕ) (t : List ℕ) (h r first : ℕ) (b : List ℕ) → 1 ≤ n → n ≤ 8 → Has t h → Has t r → (r ≡ h → ⊥) → Hooked 1 n (put t r 3 first) h r b → Hooked 0 n (put t h 3 first) h r (put b h 3 r)
hooked_all n t h r first b some few head_has has apart s =
    record {
      long = length_put b h 3 r ∙ s.long ∙ length_put t r 3 first ∙ sym (length_put t h 3 first);
      outside =
          λ x p q. record {
            at = λ j w. word_other_record b h 3 r x j p (omega arith) w ∙ (s.outside x p q).at j w
                ∙ word_other_record t r 3 first x j q (omega arith) w
                ∙ sym (word_other_record t h 3 first x j p (omega arith) w);
          };
      low =
          λ x j w. other_field x j (λ e. omega arith) (omega arith) ∙ s.low x j w
          ∙ moved x j (λ e. omega arith) (omega arith);
      head_new =
          λ k p q. eq_or_ne k 0 (λ e. rw e (word_same b h 3 r b_has (omega arith)))
          (λ ne. other_field h (3 + k) (λ e. omega arith) (omega arith) ∙ s.head_new k (omega arith) q);
      head_old =
          λ k w v. other_field h (3 + k) (λ e. w (omega arith) (omega arith)) (omega arith)
          ∙ s.head_old k (λ p q. w (omega arith) q) v
          ∙ moved h (3 + k) (λ e. w (omega arith) (omega arith)) (omega arith);
      head_adjust =
          λ k w. other_field h (11 + k) (λ e. omega arith) (omega arith) ∙ s.head_adjust k w
          ∙ moved h (11 + k) (λ e. omega arith) (omega arith);
      new_forward =
          λ k p q. eq_or_ne k 0 (λ e. rw e first_kept)
          (λ ne. other_field r (3 + k) (λ e. omega arith) (omega arith) ∙ s.new_forward k (omega arith) q
          ∙ moved h (3 + k) (λ e. omega arith) (omega arith));
      new_adjust =
          λ k one p q. other_field r (11 + k) (λ e. omega arith) (omega arith) ∙ s.new_adjust k one one q;
      old_forward = λ k p q. absurd (omega arith);
      old_adjust = λ k p q. absurd (omega arith);
      backs_kept =
          λ x. other_field x back_at (λ e. omega arith) (omega arith) ∙ s.backs_kept x
          ∙ moved x back_at (λ e. omega arith) (omega arith);
    }
  where
    b_has : Has b h
    b_has =
        let long = s.long in
        let put_long = length_put t r 3 first in
        omega arith

    other_field : (x j : ℕ) → (j ≡ 3 → ⊥) → j < stride → word (put b h 3 r) x j ≡ word b x j
    other_field x j ne w = word_other_field b h 3 r x j ne (omega arith) w

    moved : (x j : ℕ) → (j ≡ 3 → ⊥) → j < stride → word (put t r 3 first) x j ≡ word (put t h 3 first) x j
    moved x j ne w =
        word_other_field t r 3 first x j ne (omega arith) w ∙ sym (word_other_field t h 3 first x j ne (omega arith) w)

    first_kept : word (put b h 3 r) r 3 ≡ word (put t h 3 first) h 3
    first_kept =
        word_other_record b h 3 r r 3 apart (omega arith) (omega arith)
        ∙ s.old_forward 0 (omega arith) (omega arith) ∙ word_same t r 3 first has (omega arith)
        ∙ sym (word_same t h 3 first head_has (omega arith))
