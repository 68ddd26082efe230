-- The three lists of a merge after a run was moved to the result, and after the first record of one list has left.
-- Each step changes one list and the result, and leaves every record and head of the other list.
use mathlib.Core.Path.{◌≡◌, sym, ap, subst, ◌∙◌}
use mathlib.Core.List.{List, [], ◌∷◌, ◌++◌}
use Prim.Native.Nat.{ℕ, ◌+◌, ◌≤◌, ◌<◌}
use native.Mathlib.Omega.{arith}
use lib.ListN.{length, get_or, length-append}
use Rattle.arena.specs.Arena.{m_word, adjust}
use Rattle.arena.specs.inside.Chain.{All, Away, Chain, after, Same}
use Rattle.arena.specs.inside.Carried.{carried}
use Rattle.arena.proofs.ListLaws.{all_append, apart_swap, apart_from}
use Rattle.arena.proofs.Frames.{all_map, same_shape, same_value, linked_frame, trues_frame}
use Rattle.arena.proofs.CarriedLaws.{carried_frame}
use Rattle.searching.specs.inside.Cut.{front, Falling, Searchable, behind}
use Rattle.searching.proofs.SearchLaws.{falling_right}
use Rattle.searching.proofs.CutLaws.{front_behind, all_front, all_behind}
use Rattle.dropping.specs.inside.Dropping.{Dropped}
use Rattle.splicing.proofs.OpenLaws.{ends_frame}
use Rattle.moving.specs.inside.Advance.{Movable, MovedFront}
use Rattle.stepping.specs.inside.Trio.{Trio}

-- The older list and the newer one in each other's place.
pub trio_swap : (a : List ℕ) (ho hn hc : ℕ) (xs ys cs ends : List ℕ) → Trio a ho hn hc xs ys cs ends → Trio a hn ho hc ys xs cs ends
trio_swap a ho hn hc xs ys cs ends t =
    record {
      older = t.newer;
      newer = t.older;
      result = t.result;
      result_ends = t.result_ends;
      older_newer = λ e. t.older_newer (sym e);
      older_result = t.newer_result;
      newer_result = t.older_result;
      older_off_newer = t.newer_off_older;
      older_off_result = t.newer_off_result;
      newer_off_older = t.older_off_newer;
      newer_off_result = t.older_off_result;
      result_off_older = t.result_off_newer;
      result_off_newer = t.result_off_older;
      lists_apart = apart_swap xs ys t.lists_apart;
      result_older_apart = t.result_newer_apart;
      result_newer_apart = t.result_older_apart;
    }

pub trio_movable : (a : List ℕ) (ho hn hc key r : ℕ) (xs ys cs ends : List ℕ) → Trio a ho hn hc (r ∷ xs) ys cs ends → 1 ≤ key → key ≤ m_word a r → get_or ends 0 0 < 4_294_967_296 → Movable a ho hc key cs r xs ends
trio_movable a ho hn hc key r xs ys cs ends t some h fits =
    record {
      list = t.older;
      some = some;
      first = h;
      result = t.result;
      result_ends = t.result_ends;
      heads = t.older_result;
      head_away = t.older_off_result;
      result_away = t.result_off_older;
      apart = t.result_older_apart;
      end_fits = fits;
    }

falling_frame : (a b : List ℕ) (rs : List ℕ) → ((x : ℕ) → m_word b x ≡ m_word a x) → Falling a rs → Falling b rs
falling_frame a b [] e f = tt
falling_frame a b (r ∷ rs) e f =
    (all_map rs (λ x h. let p = e x in let q = e r in omega arith) f.0, falling_frame a b rs e f.1)

-- A list that a step leaves alone.
module _ (a b : List ℕ) (g : ℕ) (rs : List ℕ) (long : length b ≡ length a) (same_m : (x : ℕ) → m_word b x ≡ m_word a x) (head : Same a b g) (each : All (Same a b) rs) where
  pub left_alone : Searchable a g rs → Searchable b g rs
  left_alone s =
      record {
        linked = linked_frame a b g rs long (same_shape a b g head) (all_map rs (λ x e. same_shape a b x e) each) s.linked;
        falling = falling_frame a b rs same_m s.falling;
        few = s.few;
        floor = same_m 0 ∙ s.floor;
      }

  pub still_carried : carried b (adjust b g) rs ≡ carried a (adjust a g) rs
  still_carried =
      carried_frame a b (adjust a g) (adjust b g) rs same_m
      (trues_frame a b (adjust a g) (adjust b g) rs (λ k e. head.at (11 + k) (omega arith)) (all_map rs (λ x e. same_value a b x e) each))

-- A run of the older list was moved.
module _ (a b : List ℕ) (ho hn hc key q r : ℕ) (xs ys cs ends ends' : List ℕ) (t : Trio a ho hn hc (r ∷ xs) ys cs ends) (d : MovedFront a b ho hc key q cs (r ∷ xs) ends') where
  abbrev fr : List ℕ
  fr = front a key (r ∷ xs)

  abbrev back : List ℕ
  back = behind a key (r ∷ xs)

  whole : r ∷ xs ≡ fr ++ back
  whole = front_behind a key (r ∷ xs)

  chain : Chain a (fr ++ back)
  chain = subst (λ (l : List ℕ). Chain a l) whole t.older.linked.chain

  off_fr : (x : ℕ) → Away x (r ∷ xs) → Away x fr
  off_fr x h = all_front (λ z. z ≡ x → ⊥) a key (r ∷ xs) h

  off_back : (x : ℕ) → Away x (r ∷ xs) → Away x back
  off_back x h = all_behind (λ z. z ≡ x → ⊥) a key (r ∷ xs) h

  newer_head : Same a b hn
  newer_head = d.outside hn t.older_newer (λ e. t.newer_result (sym e)) t.newer_off_result (off_fr hn t.newer_off_older)

  newer_records : All (Same a b) ys
  newer_records = by ys t.older_off_newer t.result_off_newer (apart_swap cs ys t.result_newer_apart) (apart_swap (r ∷ xs) ys t.lists_apart)
    where
      by : (zs : List ℕ) → Away ho zs → Away hc zs → All (λ y. Away y cs) zs → All (λ y. Away y (r ∷ xs)) zs → All (Same a b) zs
      by [] p q u v = tt
      by (z ∷ zs) p q u v =
          (d.outside z (λ e. p.0 (sym e)) (λ e. q.0 (sym e)) u.0 (off_fr z v.0), by zs p.1 q.1 u.1 v.1)

  back_few : length back ≤ 512
  back_few =
      let long : length (r ∷ xs) ≡ length fr + length back = ap length whole ∙ length-append fr back in
      let few = t.older.few in
      omega arith

  fr_back : All (λ x. Away x back) fr
  fr_back = apart_swap back fr (apart_from a fr back chain)

  pub trio_moved : Trio b ho hn hc back ys (cs ++ fr) ends'
  trio_moved =
      record {
        older =
            record {
              linked = d.list;
              falling = falling_frame a b back d.m_kept (falling_right a fr back (subst (λ (l : List ℕ). Falling a l) whole t.older.falling));
              few = back_few;
              floor = d.m_kept 0 ∙ t.older.floor;
            };
        newer = left_alone a b hn ys d.length_kept d.m_kept newer_head newer_records t.newer;
        result = d.result;
        result_ends = d.result_ends;
        older_newer = t.older_newer;
        older_result = t.older_result;
        newer_result = t.newer_result;
        older_off_newer = t.older_off_newer;
        older_off_result =
            all_append (λ x. x ≡ ho → ⊥) cs fr t.older_off_result (off_fr ho t.older.linked.away);
        newer_off_older = off_back hn t.newer_off_older;
        newer_off_result = all_append (λ x. x ≡ hn → ⊥) cs fr t.newer_off_result (off_fr hn t.newer_off_older);
        result_off_older = off_back hc t.result_off_older;
        result_off_newer = t.result_off_newer;
        lists_apart = all_behind (λ x. Away x ys) a key (r ∷ xs) t.lists_apart;
        result_older_apart = all_append (λ x. Away x back) cs fr (all_map cs (λ x h. off_back x h) t.result_older_apart) fr_back;
        result_newer_apart = all_append (λ x. Away x ys) cs fr t.result_newer_apart (all_front (λ x. Away x ys) a key (r ∷ xs) t.lists_apart);
      }

  pub newer_carried : carried b (adjust b hn) ys ≡ carried a (adjust a hn) ys
  newer_carried = still_carried a b hn ys d.length_kept d.m_kept newer_head newer_records

-- The first record of the newer list has left.
module _ (a b : List ℕ) (ho hn hc y : ℕ) (xs ys cs ends : List ℕ) (t : Trio a ho hn hc xs (y ∷ ys) cs ends) (d : Dropped a b hn y ys) where
  same_of : (zs : List ℕ) → Away hn zs → All (Same a b) zs
  same_of zs p = all_map zs d.outside p

  older_head : Same a b ho
  older_head = d.outside ho t.older_newer

  result_head : Same a b hc
  result_head = d.outside hc (λ e. t.newer_result (sym e))

  off_rest : (x : ℕ) → Away x (y ∷ ys) → Away x ys
  off_rest x h = h.1

  pub trio_dropped : Trio b ho hn hc xs ys cs ends
  trio_dropped =
      record {
        older = left_alone a b ho xs d.length_kept d.m_kept older_head (same_of xs t.newer_off_older) t.older;
        newer =
            record {
              linked = d.linked;
              falling = falling_frame a b ys d.m_kept t.newer.falling.1;
              few = let f = t.newer.few in omega arith;
              floor = d.m_kept 0 ∙ t.newer.floor;
            };
        result =
            linked_frame a b hc cs d.length_kept (same_shape a b hc result_head)
            (all_map cs (λ x e. same_shape a b x e) (same_of cs t.newer_off_result)) t.result;
        result_ends = ends_frame a b hc cs ends (all_map cs (λ x e. e.at 0 (omega arith)) (same_of cs t.newer_off_result)) t.result_ends;
        older_newer = t.older_newer;
        older_result = t.older_result;
        newer_result = t.newer_result;
        older_off_newer = t.older_off_newer.1;
        older_off_result = t.older_off_result;
        newer_off_older = t.newer_off_older;
        newer_off_result = t.newer_off_result;
        result_off_older = t.result_off_older;
        result_off_newer = t.result_off_newer.1;
        lists_apart = all_map xs (λ x h. off_rest x h) t.lists_apart;
        result_older_apart = t.result_older_apart;
        result_newer_apart = all_map cs (λ x h. off_rest x h) t.result_newer_apart;
      }

  pub dropped_older : carried b (adjust b ho) xs ≡ carried a (adjust a ho) xs
  dropped_older = still_carried a b ho xs d.length_kept d.m_kept older_head (same_of xs t.newer_off_older)

  pub dropped_result : carried b (adjust b hc) cs ≡ carried a (adjust a hc) cs
  dropped_result = still_carried a b hc cs d.length_kept d.m_kept result_head (same_of cs t.newer_off_result)

  pub dropped_newer : carried b (adjust b hn) ys ≡ carried a (after a (adjust a hn) y) ys
  dropped_newer = carried_frame a b (after a (adjust a hn) y) (adjust b hn) ys d.m_kept d.values
