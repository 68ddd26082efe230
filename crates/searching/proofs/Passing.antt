-- What the walk along a front keeps: the records passed are in front and raised, and the rest of the arena is as it was.
-- A turn raises the p of one record more, and where the next one does not pass, those passed are the whole front.
use Rattle.std.proofs.Common.{◌≡◌, ℕ, zero, suc, ◌+◌, ◌*◌, ◌%◌, ◌^◌, ◌<◌, ◌≤◌, Bool, true, false, ◌&&◌, leb, List, [], ◌∷◌, ◌++◌, length, get_or, set, sym, refl, ap, ◌∙◌, subst, append_assoc, append-nil, arith, length-append, le-leb}
use borrow.Author.Tests.{lt-leb}
use Rattle.arena.specs.Arena.{stride, word, m_word, p_word, forward, adjust, back_at}
use Rattle.arena.specs.Lazy.{next_with, last_with}
use Rattle.arena.specs.inside.Chain.{Has, put, wrap, All, Away, Member, Chain, Same, Shape}
use Rattle.arena.specs.inside.Backs.{BacksKept}
use Rattle.arena.proofs.ListLaws.{last_here, last_append, all_left, all_right, all_append, chain_right, jump, apart_from}
use Rattle.arena.proofs.PutLaws.{length_put, word_same, word_other_record, word_other_field, same_refl, same_put, same_trans}
use Rattle.arena.proofs.Cases.{lt_or_ge}
use Rattle.arena.proofs.Frames.{all_both}
use Rattle.arena.proofs.Walking.{count, next_none, next_first, next_second, count_is, one_list}
use Rattle.searching.specs.inside.Cut.{front, Searchable, passes, Reachable}
use Rattle.searching.specs.inside.Walk.{Walked}
use Rattle.searching.proofs.SearchLaws.{front_in, front_out, passes_yes, passes_no}

-- Records that are not below the key are in front of what follows them.
front_all : (a : List ℕ) (key : ℕ) (xs ys : List ℕ) → All (λ x. key ≤ m_word a x) xs → front a key (xs ++ ys) ≡ xs ++ front a key ys
front_all a key [] ys tops = refl
front_all a key (x ∷ xs) ys tops =
    front_in a key x (xs ++ ys) tops.0 ∙ ap (λ (l : List ℕ). x ∷ l) (front_all a key xs ys tops.1)

-- Where the first record does not pass, none is in front.
pub front_none : (a : List ℕ) (key : ℕ) (rs : List ℕ) → Chain a rs → passes a (next_with a 0 rs) key ≡ false → front a key rs ≡ []
unfolding front
front_none a key [] c e = refl
front_none a key (r ∷ rs) c e =
    let here = next_first a r rs c.0 in
    front_out a key r rs (passes_no a r key (subst (λ (x : ℕ). passes a x key ≡ false) here e) c.0.some)

passes_frame : (a b : List ℕ) (r key : ℕ) → m_word b r ≡ m_word a r → passes b r key ≡ passes a r key
unfolding passes
passes_frame a b r key e = ap (λ (m : ℕ). leb 1 r && leb key m) e

-- What a record or a head leads to by link k can be read.
pub next_reach : (a : List ℕ) (k x : ℕ) (rs : List ℕ) → Has a 0 → m_word a 0 ≡ 0 → Chain a rs → x ≡ next_with a k rs → Reachable a x
next_reach a k x rs has floor chain is =
    record {
      has =
          lt_or_ge 0 x
          (λ some.
          let j = jump a k rs (subst (λ (n : ℕ). 1 ≤ n) is some) in
          subst (λ (n : ℕ). Has a n) (sym is)
          (chain_right a j.before (next_with a k rs ∷ j.after) (subst (Chain a) j.split chain)).0.has)
          (λ none. omega arith);
      floor = floor;
    }

pub link_reach : (a : List ℕ) (h : ℕ) (rs : List ℕ) → Searchable a h rs → (k x w : ℕ) → k < 8 → w ≡ word a h (3 + k) → x ≡ w → Reachable a x
link_reach a h rs s k x w few w_is e =
    let top = s.linked.top in
    let has = s.linked.has in
    next_reach a k x rs (omega arith) s.floor s.linked.chain (e ∙ w_is ∙ s.linked.links.at k (omega arith))

-- The records ps were passed, cur is the last of them or the head, and qs are left, the first of which is `next`.
pub record Passing (a₀ a : List ℕ) (h key v cur next : ℕ) : Type 0 where
  pub rs : List ℕ
  pub list : Searchable a₀ h rs
  pub ps : List ℕ
  pub qs : List ℕ
  pub split : rs ≡ ps ++ qs
  pub tops : All (λ x. key ≤ m_word a₀ x) ps
  pub length_kept : length a ≡ length a₀
  pub shape : (x : ℕ) → Shape a₀ a x
  pub backs_kept : BacksKept a₀ a
  pub adjust_kept : (x k : ℕ) → k < 8 → adjust a x k ≡ adjust a₀ x k
  pub outside : (x : ℕ) → Away x ps → Same a₀ a x
  pub raised : All (λ x. p_word a x ≡ wrap (p_word a₀ x) v) ps
  pub cur_is : cur ≡ last_with a₀ 0 h ps
  pub next_is : next ≡ next_with a₀ 0 qs

pub passing_start : (a : List ℕ) (h key v next w : ℕ) → (rs : List ℕ) × Searchable a h rs → w ≡ word a h 3 → next ≡ w → Passing a a h key v h next
unfolding last_with
passing_start a h key v next w (rs, s) w_is e =
    let top = s.linked.top in
    record {
      rs = rs;
      list = s;
      ps = [];
      qs = rs;
      split = refl;
      tops = tt;
      length_kept = refl;
      shape = λ x. record { level_kept = refl; m_kept = refl; forward_kept = λ k p. refl };
      backs_kept = λ x. refl;
      adjust_kept = λ x k p. refl;
      outside = λ x away. same_refl a x;
      raised = tt;
      cur_is = refl;
      next_is = e ∙ w_is ∙ s.linked.links.at 0 (omega arith);
    }

module _ (a₀ a : List ℕ) (h key v cur next : ℕ) (g : Passing a₀ a h key v cur next) where
  chain : Chain a₀ (g.ps ++ g.qs)
  chain = subst (Chain a₀) g.split g.list.linked.chain

  left : Chain a₀ g.qs
  left = chain_right a₀ g.ps g.qs chain

  -- Where there is a next record, it is the first of those left.
  record Ahead : Type 0 where
    pub post : List ℕ
    pub here : g.qs ≡ next ∷ post
    pub member : Member a₀ next post

  ahead : 1 ≤ next → Ahead
  ahead some = first g.qs left g.next_is refl
    where
      first : (qs : List ℕ) → Chain a₀ qs → next ≡ next_with a₀ 0 qs → g.qs ≡ qs → Ahead
      first [] c e is = let none = next_none a₀ in absurd (omega arith)
      first (q ∷ qs) c e is =
          let same : q ≡ next = sym (e ∙ next_first a₀ q qs c.0) in
          record {
            post = qs;
            here = is ∙ ap (λ (x : ℕ). x ∷ qs) same;
            member = subst (λ (x : ℕ). Member a₀ x qs) same c.0;
          }

  pub passing_reach : Reachable a next
  passing_reach =
      let head = g.list.linked.has in
      let long = g.length_kept in
      let reach = next_reach a₀ 0 next g.qs (omega arith) g.list.floor left g.next_is in
      let has = reach.has in
      record { has = omega arith; floor = (g.shape 0).m_kept ∙ g.list.floor }

  module _ (p : true ≡ passes a next key) where
    some_next : 1 ≤ next
    some_next = (passes_yes a next key (sym p)).0

    pub passing_has : Has a next
    passing_has = passing_reach.has

    abbrev post : List ℕ
    post = (ahead some_next).post

    member : Member a₀ next post
    member = (ahead some_next).member

    whole : Chain a₀ (g.ps ++ (next ∷ post))
    whole = subst (λ (l : List ℕ). Chain a₀ (g.ps ++ l)) (ahead some_next).here chain

    apart : Away next g.ps
    apart = (apart_from a₀ g.ps (next ∷ post) whole).0

    -- The turn as the code makes it: the p raised, and the next record read.
    module _ (b : List ℕ) (n w : ℕ) (raised : b ≡ put a next 2 (wrap (word a next 2) v)) (read : w ≡ word b next 3) (is : n ≡ w) where
      lifted_field : (x j : ℕ) → j < stride → (j ≡ 2 → ⊥) → word b x j ≡ word a x j
      lifted_field x j few ne =
          ap (λ (l : List ℕ). word l x j) raised ∙ word_other_field a next 2 _ x j ne (omega arith) few

      next_left : n ≡ next_with a₀ 0 post
      next_left =
          is ∙ read ∙ lifted_field next 3 (omega arith) (omega arith) ∙ (g.shape next).forward_kept 0 (omega arith)
          ∙ next_second a₀ next post member

      few_left : length post < 512
      few_left =
          let all : length g.rs ≡ length g.ps + length (next ∷ post) = ap length g.split ∙ length-append g.ps g.qs ∙ ap (λ (l : List ℕ). length g.ps + length l) (ahead some_next).here in
          let few = g.list.few in
          omega arith

      pub passing_less : count 512 a₀ n < count 512 a₀ next
      passing_less =
          let few = few_left in
          let was = count_is 512 a₀ (next ∷ post) next (chain_right a₀ g.ps (next ∷ post) whole) (sym (next_first a₀ next post member)) (omega arith) in
          let is_left = count_is 512 a₀ post n (chain_right a₀ g.ps (next ∷ post) whole).1 next_left (omega arith) in
          omega arith

      raised_next : p_word b next ≡ wrap (p_word a₀ next) v
      raised_next =
          ap (λ (l : List ℕ). word l next 2) raised ∙ word_same a next 2 _ passing_has (omega arith)
          ∙ ap (λ (x : ℕ). wrap x v) ((g.outside next apart).at 2 (omega arith))

      raised_before : (x : ℕ) → (x ≡ next → ⊥) → p_word a x ≡ wrap (p_word a₀ x) v → p_word b x ≡ wrap (p_word a₀ x) v
      raised_before x ne up =
          ap (λ (l : List ℕ). word l x 2) raised ∙ word_other_record a next 2 _ x 2 ne (omega arith) (omega arith) ∙ up

      pub passing_more : Passing a₀ b h key v next n
      unfolding last_with
      passing_more =
          let link = member.low in
          record {
            rs = g.rs;
            list = g.list;
            ps = g.ps ++ (next ∷ []);
            qs = post;
            split =
                g.split ∙ ap (λ (l : List ℕ). g.ps ++ l) (ahead some_next).here
                ∙ sym (append_assoc g.ps (next ∷ []) post);
            tops =
                all_append (λ x. key ≤ m_word a₀ x) g.ps (next ∷ []) g.tops
                (let high = (passes_yes a next key (sym p)).1 in
                let same = (g.shape next).m_kept in
                let m_high : key ≤ m_word a₀ next = omega arith in
                (m_high, tt));
            length_kept = ap length raised ∙ length_put a next 2 _ ∙ g.length_kept;
            shape = λ x.
                let s = g.shape x in
                record {
                  level_kept = lifted_field x 0 (omega arith) (omega arith) ∙ s.level_kept;
                  m_kept = lifted_field x 1 (omega arith) (omega arith) ∙ s.m_kept;
                  forward_kept = λ k e. lifted_field x (3 + k) (omega arith) (omega arith) ∙ s.forward_kept k e;
                };
            backs_kept = λ x. lifted_field x back_at (omega arith) (omega arith) ∙ g.backs_kept x;
            adjust_kept = λ x k e. lifted_field x (11 + k) (omega arith) (omega arith) ∙ g.adjust_kept x k e;
            outside = λ x away.
                let far = all_split x away in
                same_trans a₀ a b x (g.outside x far.0)
                (subst (λ (l : List ℕ). Same a l x) (sym raised) (same_put a next 2 _ x far.1 (omega arith)));
            raised =
                all_append (λ x. p_word b x ≡ wrap (p_word a₀ x) v) g.ps (next ∷ [])
                (all_both g.ps raised_before apart g.raised) (raised_next, tt);
            cur_is =
                sym
                (last_append a₀ 0 h g.ps (next ∷ [])
                ∙ last_here a₀ 0 (last_with a₀ 0 h g.ps) next [] link);
            next_is = next_left;
          }
        where
          all_split : (x : ℕ) → Away x (g.ps ++ (next ∷ [])) → Away x g.ps × (x ≡ next → ⊥)
          all_split x away =
              (all_left (λ y. y ≡ x → ⊥) g.ps (next ∷ []) away, λ e. (all_right (λ y. y ≡ x → ⊥) g.ps (next ∷ []) away).0 (sym e))

  pub passing_done : false ≡ passes a next key → (rs : List ℕ) → Searchable a₀ h rs → Walked a₀ a h key v rs cur
  passing_done p rs s =
      let same : g.rs ≡ rs = one_list a₀ h g.rs rs g.list.linked s.linked in
      let stops : passes a₀ (next_with a₀ 0 g.qs) key ≡ false = ap (λ (x : ℕ). passes a₀ x key) (sym g.next_is) ∙ sym (passes_frame a₀ a next key (g.shape next).m_kept) ∙ sym p in
      let all : g.ps ≡ front a₀ key rs = sym (ap (front a₀ key) (sym same ∙ g.split) ∙ front_all a₀ key g.ps g.qs g.tops ∙ ap (λ (l : List ℕ). g.ps ++ l) (front_none a₀ key g.qs left stops) ∙ append-nil g.ps) in
      record {
        length_kept = g.length_kept;
        shape = g.shape;
        backs_kept = g.backs_kept;
        adjust_kept = g.adjust_kept;
        outside = λ x away. g.outside x (subst (Away x) (sym all) away);
        raised = subst (All (λ x. p_word a x ≡ wrap (p_word a₀ x) v)) all g.raised;
        last = g.cur_is ∙ ap (last_with a₀ 0 h) all;
      }

-- A record or 0 whose m is at least a key is a record, and passes.
passes_so : (a : List ℕ) (x key : ℕ) → Reachable a x → 1 ≤ key → key ≤ m_word a x → true ≡ passes a x key
unfolding passes
passes_so a x key reach some high =
    lt_or_ge 0 x (λ more. sym (rw (le-leb 1 x more, le-leb key (m_word a x) high)))
    (λ none.
    let zero_is : x ≡ 0 = omega arith in
    let floor : m_word a x ≡ 0 = ap (m_word a) zero_is ∙ reach.floor in
    absurd (omega arith))

passes_not : (a : List ℕ) (x key : ℕ) → m_word a x < key → false ≡ passes a x key
unfolding passes
passes_not a x key low = sym (ap (λ (b : Bool). leb 1 x && b) (lt-leb key (m_word a x) low) ∙ none (leb 1 x))
  where
    none : (b : Bool) → (b && false) ≡ false
    none true = refl
    none false = refl

-- The walk by the first link hangs on the forwards alone.
count_frame : (most : ℕ) (a b : List ℕ) (x : ℕ) → ((y : ℕ) → forward b y 0 ≡ forward a y 0) → count most b x ≡ count most a x
count_frame zero a b x same = refl
count_frame (suc most) a b zero same = refl
count_frame (suc most) a b (suc x) same =
    ap suc (count_frame most a b (forward b (suc x) 0) same ∙ ap (count most a) (same (suc x)))

-- The walk as the code makes it, from the arena b₀, in which the first record is raised: `at` is the place where the next record starts.
pub record Onward (b₀ : List ℕ) (h key v cur₀ next₀ : ℕ) (b : List ℕ) (cur next at : ℕ) : Type 0 where
  pub onward : (a : List ℕ) → Passing a b₀ h key v cur₀ next₀ → Passing a b h key v cur next
  pub some : 1 ≤ key
  pub at_is : at ≡ stride * next
  pub room : at + stride ≤ length b
  pub length_kept : length b ≡ length b₀

module _ (a : List ℕ) (h key v first w : ℕ) (pre : ((rs : List ℕ) × Searchable a h rs) × (1 ≤ key)) (passing : passes a (forward a h 0) key ≡ true) (w_is : w ≡ word a h 3) (first_is : first ≡ w) where
  start : Passing a a h key v h first
  start = passing_start a h key v first w pre.0 w_is first_is

  passes_first : true ≡ passes a first key
  passes_first = sym (ap (λ (x : ℕ). passes a x key) (first_is ∙ w_is) ∙ passing)

  pub first_has : Has a first
  first_has = passing_has a a h key v h first start passes_first

  module _ (b₀ : List ℕ) (n₀ u₀ : ℕ) (raised : b₀ ≡ put a first 2 (wrap (word a first 2) v)) (read : u₀ ≡ word b₀ first 3) (is : n₀ ≡ u₀) where
    -- The first record has passed.
    begun : Passing a b₀ h key v first n₀
    begun = passing_more a a h key v h first start passes_first b₀ n₀ u₀ raised read is

    pub onward_start : (at : ℕ) → at ≡ stride * n₀ → Onward b₀ h key v first n₀ b₀ first n₀ at
    onward_start at at_is =
        let has = (passing_reach a b₀ h key v first n₀ begun).has in
        record { onward = λ c g. g; some = pre.1; at_is = at_is; room = omega arith; length_kept = refl }

    -- A turn.
    module _ (b : List ℕ) (cur next at : ℕ) (g : Onward b₀ h key v first n₀ b cur next at) where
      m_at : get_or b (at + 1) 0 ≡ m_word b next
      unfolding word
      m_at = ap (λ (i : ℕ). get_or b (i + 1) 0) g.at_is

      module _ (high : key ≤ get_or b (at + 1) 0) where
        goes : true ≡ passes b next key
        goes = let same = m_at in passes_so b next key (passing_reach a b h key v cur next (g.onward a begun)) g.some (omega arith)

        module _ (c : List ℕ) (x n u : ℕ) (sum : x ≡ (get_or b (at + 2) 0 + v) % 2 ^ 32) (written : c ≡ set b (at + 2) x) (read_next : u ≡ get_or c (at + 3) 0) (next_is : n ≡ u) where
          raises : c ≡ put b next 2 (wrap (word b next 2) v)
          unfolding put word wrap
          raises =
              written ∙ ap (set b (at + 2)) sum
              ∙ ap (λ (i : ℕ). set b (i + 2) ((get_or b (i + 2) 0 + v) % 2 ^ 32)) g.at_is

          reads : u ≡ word c next 3
          unfolding word
          reads = read_next ∙ ap (λ (i : ℕ). get_or c (i + 3) 0) g.at_is

          further : (d : List ℕ) → Passing d b₀ h key v first n₀ → Passing d c h key v next n
          further d start_d = passing_more d b h key v cur next (g.onward d start_d) goes c n u raises reads next_is

          pub onward_less : count 512 b₀ n < count 512 b₀ next
          onward_less =
              let same : (y : ℕ) → forward b₀ y 0 ≡ forward a y 0 = λ y. (begun.shape y).forward_kept 0 (omega arith) in
              let old = count_frame 512 a b₀ next same in
              let new = count_frame 512 a b₀ n same in
              let less = passing_less a b h key v cur next (g.onward a begun) goes c n u raises reads next_is in
              omega arith

          pub onward_more : (to : ℕ) → to ≡ stride * n → Onward b₀ h key v first n₀ c next n to
          onward_more to to_is =
              let after = further a begun in
              let has = (passing_reach a c h key v next n after).has in
              let one = after.length_kept in
              let two = begun.length_kept in
              record { onward = further; some = g.some; at_is = to_is; room = omega arith; length_kept = omega arith }

      pub onward_done : get_or b (at + 1) 0 < key → (rs : List ℕ) → Searchable a h rs → Walked a b h key v rs cur
      onward_done low rs s =
          let same = m_at in
          passing_done a b h key v cur next (g.onward a begun) (passes_not b next key (omega arith)) rs s
