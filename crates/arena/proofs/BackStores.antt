-- What a store of a back word leaves: every other word, and so the links, the items and the levels of every list.
-- It reaches one field, which no link, no level, no m and no true p reads.
use Rattle.std.proofs.Common.{◌≡◌, ℕ, ◌+◌, ◌<◌, List, refl, ap, ◌∙◌, arith}
use Rattle.arena.specs.Arena.{word, back, back_at, level_at, m_at, p_at, forward_at, adjust_at}
use Rattle.arena.specs.inside.Chain.{Has, put, trues, Shape, Value}
use Rattle.arena.specs.inside.Built.{Built}
use Rattle.arena.proofs.PutLaws.{length_put, word_same, word_other_record, word_other_field, put_swap}
use Rattle.arena.proofs.Frames.{all_refl, linked_frame, trues_frame}

module _ (a : List ℕ) (r v : ℕ) where
  pub back_same : Has a r → back (put a r back_at v) r ≡ v
  back_same has = word_same a r back_at v has (omega arith)

  pub back_other : (x : ℕ) → (x ≡ r → ⊥) → back (put a r back_at v) x ≡ back a x
  back_other x ne = word_other_record a r back_at v x back_at ne (omega arith) (omega arith)

  pub word_stays : (x j : ℕ) → j < back_at → word (put a r back_at v) x j ≡ word a x j
  word_stays x j p = word_other_field a r back_at v x j (λ e. omega arith) (omega arith) (omega arith)

  pub shape_stays : (x : ℕ) → Shape a (put a r back_at v) x
  shape_stays x =
      record {
        level_kept = word_stays x level_at (omega arith);
        m_kept = word_stays x m_at (omega arith);
        forward_kept = λ k p. word_stays x (forward_at + k) (omega arith);
      }

  pub value_stays : (x : ℕ) → Value a (put a r back_at v) x
  value_stays x =
      record {
        level_kept = word_stays x level_at (omega arith);
        p_kept = word_stays x p_at (omega arith);
        adjust_kept = λ k p. word_stays x (adjust_at + k) (omega arith);
      }

  pub built_stays : (h : ℕ) (rs : List ℕ) → Built a h rs → Built (put a r back_at v) h rs
  built_stays h rs built =
      record {
        linked =
            linked_frame a (put a r back_at v) h rs (length_put a r back_at v) (shape_stays h) (all_refl rs shape_stays)
            built.linked;
        still = λ k p. word_stays h (adjust_at + k) (omega arith) ∙ built.still k p;
      }

  pub trues_stay : (f : ℕ → ℕ) (rs : List ℕ) → trues (put a r back_at v) f rs ≡ trues a f rs
  trues_stay f rs = trues_frame a (put a r back_at v) f f rs (λ k p. refl) (all_refl rs value_stays)

  -- A head's first forward may be stored after the back word or before.
  pub stored_beside : (b : List ℕ) → b ≡ put a r back_at v → (h w : ℕ) → put b h forward_at w ≡ put (put a h forward_at w) r back_at v
  stored_beside b stored h w =
      ap (λ (l : List ℕ). put l h forward_at w) stored
      ∙ put_swap a r back_at v h forward_at w (λ e. omega arith) (omega arith) (omega arith)
