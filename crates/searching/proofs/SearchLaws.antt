-- What the search keeps: for each link below the present one, the last record with it in front of the whole list is the last one in front of what is left, from the present record on.
-- A jump passes only records that have not the link, and the level is left where no record in front has it any more.
use Rattle.std.proofs.Common.{◌≡◌, ℕ, suc, ◌+◌, ◌-◌, ◌<◌, ◌≤◌, Bool, true, false, cond, ◌&&◌, leb, List, [], ◌∷◌, ◌++◌, length, get_or, set, sym, refl, ap, ◌∙◌, subst, append_assoc, arith, length-append, length-set, get_or-set_other, get_or-set_same, le-leb, leb-false, leb-true}
use borrow.Author.Tests.{lt-leb}
use Rattle.arena.specs.Arena.{word, level, m_word, forward, adjust}
use Rattle.arena.specs.Lazy.{next_with, last_with}
use Rattle.arena.specs.inside.Chain.{Has, All, Links, Chain}
use Rattle.arena.proofs.ListLaws.{last_here, last_none, last_append, Jump, jump, all_right, chain_right}
use Rattle.arena.proofs.Walking.{count, count_is, one_list}
use Rattle.arena.proofs.Frames.{next_here, next_past}
use Rattle.arena.proofs.Cases.{lt_or_ge, eq_or_ne}
use Rattle.searching.specs.inside.Cut.{front, Falling, Searchable, CutAt, passes, Reachable}

pub front_in : (a : List ℕ) (key r : ℕ) (rs : List ℕ) → key ≤ m_word a r → front a key (r ∷ rs) ≡ r ∷ front a key rs
unfolding front
front_in a key r rs h = simp (le-leb key (m_word a r) h)

pub front_out : (a : List ℕ) (key r : ℕ) (rs : List ℕ) → m_word a r < key → front a key (r ∷ rs) ≡ []
unfolding front
front_out a key r rs h = simp (lt-leb key (m_word a r) h)

-- Records before one that is in front are in front.
pub front_jump : (a : List ℕ) (key r : ℕ) (xs ys : List ℕ) → Falling a (xs ++ (r ∷ ys)) → key ≤ m_word a r → front a key (xs ++ (r ∷ ys)) ≡ xs ++ (r ∷ front a key ys)
front_jump a key r [] ys f h = front_in a key r ys h
front_jump a key r (x ∷ xs) ys f h =
    let above = (all_right (λ z. m_word a z < m_word a x) xs (r ∷ ys) f.0).0 in
    let high : key ≤ m_word a x = omega arith in
    front_in a key x (xs ++ (r ∷ ys)) high ∙ ap (λ (l : List ℕ). x ∷ l) (front_jump a key r xs ys f.1 h)

pub falling_right : (a xs ys : List ℕ) → Falling a (xs ++ ys) → Falling a ys
falling_right a [] ys f = f
falling_right a (x ∷ xs) ys f = falling_right a xs ys f.1

-- Whether r passes, in cases.
pub passes_yes : (a : List ℕ) (r key : ℕ) → passes a r key ≡ true → (1 ≤ r) × (key ≤ m_word a r)
unfolding passes
passes_yes a r key e = by (leb 1 r) (leb key (m_word a r)) refl refl e
  where
    by : (x y : Bool) → leb 1 r ≡ x → leb key (m_word a r) ≡ y → (x && y) ≡ true → (1 ≤ r) × (key ≤ m_word a r)
    by true true p q t = (leb-true 1 r p, leb-true key (m_word a r) q)
    by true false p q t = absurd (let z : ◌≡◌ {A = ℕ} 0 1 = cc in omega arith)
    by false y p q t = absurd (let z : ◌≡◌ {A = ℕ} 0 1 = cc in omega arith)

pub passes_no : (a : List ℕ) (r key : ℕ) → passes a r key ≡ false → 1 ≤ r → m_word a r < key
unfolding passes
passes_no a r key e h =
    leb-false key (m_word a r) (subst (λ (b : Bool). (b && leb key (m_word a r)) ≡ false) (le-leb 1 r h) e)

-- Where the next record with link k does not pass, none in front has link k.
pub none_in_front : (a : List ℕ) (k key : ℕ) (rs : List ℕ) → Chain a rs → Falling a rs → passes a (next_with a k rs) key ≡ false → All (λ x. level a x ≤ k) (front a key rs)
unfolding front
none_in_front a k key [] c f e = tt
none_in_front a k key (r ∷ rs) c f e =
    lt_or_ge k (level a r)
    (λ h.
    let here = next_here a k r rs h in
    let low : m_word a r < key = passes_no a r key (subst (λ (n : ℕ). passes a n key ≡ false) here e) c.0.some in
    subst (λ (l : List ℕ). All (λ x. level a x ≤ k) l) (sym (front_out a key r rs low)) tt)
    (λ h.
    let past = next_past a k r rs h in
    let rest = none_in_front a k key rs c.1 f.1 (subst (λ (n : ℕ). passes a n key ≡ false) past e) in
    by (leb key (m_word a r)) h rest)
  where
    by : (b : Bool) → level a r ≤ k → All (λ x. level a x ≤ k) (front a key rs) → All (λ x. level a x ≤ k) (cond b (r ∷ front a key rs) [])
    by true h n = (h, n)
    by false h n = tt

-- The state of the search: the record cur, before the records post, and the links below i still to be cut, of n.
pub record Going (a : List ℕ) (h key n : ℕ) (cut₀ sums₀ cut sums : List ℕ) (cur i : ℕ) : Type 0 where
  pub rs : List ℕ
  pub list : Searchable a h rs
  pub post : List ℕ
  pub all : n ≤ 8
  pub inside : i ≤ n
  pub high : i ≤ level a cur
  pub has : Has a cur
  pub links : Links a cur post
  pub chain : Chain a post
  pub falling : Falling a post
  pub few : length post ≤ 512
  pub same : (k : ℕ) → k < i → last_with a k h (front a key rs) ≡ last_with a k cur (front a key post)
  pub done : (k : ℕ) → i ≤ k → k < n → get_or cut k 0 ≡ last_with a k h (front a key rs)
  pub sums_done : (k : ℕ) → i ≤ k → k < n → get_or sums k 0 ≡ adjust a (last_with a k h (front a key rs)) k
  pub long : 8 ≤ length cut
  pub kept : length cut ≡ length cut₀
  pub sums_long : 8 ≤ length sums
  pub sums_kept : length sums ≡ length sums₀

pub going_start : (a : List ℕ) (h key n : ℕ) (cut sums : List ℕ) → (rs : List ℕ) × Searchable a h rs → (n ≤ 8) × (8 ≤ length cut) × (8 ≤ length sums) → Going a h key n cut sums cut sums h n
going_start a h key n cut sums r l =
    let s = r.1 in
    let top = s.linked.top in
    let few = l.0 in
    record {
      rs = r.0;
      list = s;
      post = r.0;
      all = l.0;
      inside = omega arith;
      high = omega arith;
      has = s.linked.has;
      links = s.linked.links;
      chain = s.linked.chain;
      falling = s.falling;
      few = s.few;
      same = λ k e. refl;
      done = λ k e f. absurd (omega arith);
      sums_done = λ k e f. absurd (omega arith);
      long = l.1;
      kept = refl;
      sums_long = l.2;
      sums_kept = refl;
    }

-- One turn at the link i - 1, whose forward is nxt.
module _ (a : List ℕ) (h key n : ℕ) (cut₀ sums₀ cut sums : List ℕ) (cur i nxt : ℕ) (g : Going a h key n cut₀ sums₀ cut sums cur i) (more : 0 < i) (e : nxt ≡ word a cur (3 + (i - 1))) where
  is_next : nxt ≡ next_with a (i - 1) g.post
  is_next = e ∙ g.links.at (i - 1) (let x = g.high in omega arith)

  step : 1 ≤ nxt → Jump a (i - 1) g.post
  step s = jump a (i - 1) g.post (subst (λ (n : ℕ). 1 ≤ n) is_next s)

  split : (s : 1 ≤ nxt) → g.post ≡ (step s).before ++ (nxt ∷ (step s).after)
  split s = (step s).split ∙ ap (λ (n : ℕ). (step s).before ++ (n ∷ (step s).after)) (sym is_next)

  rest : (s : 1 ≤ nxt) → Chain a (nxt ∷ (step s).after)
  rest s = chain_right a (step s).before (nxt ∷ (step s).after) (subst (λ (l : List ℕ). Chain a l) (split s) g.chain)

  pub going_has : Reachable a nxt
  going_has =
      let head = g.list.linked.has in
      record { has = lt_or_ge 0 nxt (λ s. (rest s).0.has) (λ none. omega arith); floor = g.list.floor }

  pub going_jump : passes a nxt key ≡ true → Going a h key n cut₀ sums₀ cut sums nxt i
  going_jump p =
      let yes_pass = passes_yes a nxt key p in
      let s = yes_pass.0 in
      let j = step s in
      let fall = subst (λ (l : List ℕ). Falling a l) (split s) g.falling in
      let link = subst (λ (n : ℕ). i - 1 < level a n) (sym is_next) j.link in
      let long : length g.post ≡ length j.before + suc (length j.after) = ap length (split s) ∙ length-append j.before (nxt ∷ j.after) in
      record {
        rs = g.rs;
        list = g.list;
        post = j.after;
        all = g.all;
        inside = g.inside;
        high = omega arith;
        has = (rest s).0.has;
        links = (rest s).0.links;
        chain = (rest s).1;
        falling = falling_right a (j.before ++ (nxt ∷ [])) j.after (subst (λ (l : List ℕ). Falling a l) (sym (append_assoc j.before (nxt ∷ []) j.after)) fall);
        few = let f = g.few in omega arith;
        same = λ k below.
            g.same k below
            ∙ ap (λ (l : List ℕ). last_with a k cur (front a key l)) (split s)
            ∙ ap (last_with a k cur) (front_jump a key nxt j.before j.after fall yes_pass.1)
            ∙ last_append a k cur j.before (nxt ∷ front a key j.after)
            ∙ last_here a k (last_with a k cur j.before) nxt (front a key j.after) (omega arith);
        done = g.done;
        sums_done = g.sums_done;
        long = g.long;
        kept = g.kept;
        sums_long = g.sums_long;
        sums_kept = g.sums_kept;
      }

  pub going_lower : passes a nxt key ≡ false → (v : ℕ) → v ≡ word a cur (11 + (i - 1)) → Going a h key n cut₀ sums₀ (set cut (i - 1) cur) (set sums (i - 1) v) cur (i - 1)
  going_lower p v v_is =
      let none = none_in_front a (i - 1) key g.post g.chain g.falling (subst (λ (n : ℕ). passes a n key ≡ false) is_next p) in
      let here : cur ≡ last_with a (i - 1) h (front a key g.rs) = sym (g.same (i - 1) (omega arith) ∙ last_none a (i - 1) cur (front a key g.post) none) in
      let long = g.long in
      let inside = g.inside in
      record {
        rs = g.rs;
        list = g.list;
        post = g.post;
        all = g.all;
        inside = omega arith;
        high = let x = g.high in omega arith;
        has = g.has;
        links = g.links;
        chain = g.chain;
        falling = g.falling;
        few = g.few;
        same = λ k below. g.same k (omega arith);
        done = λ k low high. stored k low high here;
        sums_done = λ k low high. stored_sum k low high here;
        long = omega (arith, length-set cut (i - 1) cur);
        kept = length-set cut (i - 1) cur ∙ g.kept;
        sums_long = let l = g.sums_long in omega (arith, length-set sums (i - 1) v);
        sums_kept = length-set sums (i - 1) v ∙ g.sums_kept;
      }
    where
      stored : (k : ℕ) → i - 1 ≤ k → k < n → cur ≡ last_with a (i - 1) h (front a key g.rs) → get_or (set cut (i - 1) cur) k 0 ≡ last_with a k h (front a key g.rs)
      stored k low high here =
          eq_or_ne k (i - 1)
          (λ same. rw same (get_or-set_same cut (i - 1) cur 0 (let l = g.long in let x = g.inside in let y = g.all in omega arith) ∙ here))
          (λ other. get_or-set_other cut (i - 1) k cur 0 other ∙ g.done k (omega arith) high)

      stored_sum : (k : ℕ) → i - 1 ≤ k → k < n → cur ≡ last_with a (i - 1) h (front a key g.rs) → get_or (set sums (i - 1) v) k 0 ≡ adjust a (last_with a k h (front a key g.rs)) k
      stored_sum k low high here =
          eq_or_ne k (i - 1)
          (λ same. rw same (get_or-set_same sums (i - 1) v 0 (let l = g.sums_long in let x = g.inside in let y = g.all in omega arith) ∙ v_is ∙ ap (λ (x : ℕ). adjust a x (i - 1)) here))
          (λ other. get_or-set_other sums (i - 1) k v 0 other ∙ g.sums_done k (omega arith) high)

  pub going_less : passes a nxt key ≡ true → i + count 512 a (forward a nxt 0) < i + count 512 a (forward a cur 0)
  going_less p =
      let yes_pass = passes_yes a nxt key p in
      let s = yes_pass.0 in
      let j = step s in
      let r = rest s in
      let few = g.few in
      let long : length g.post ≡ length j.before + suc (length j.after) = ap length (split s) ∙ length-append j.before (nxt ∷ j.after) in
      let x = g.high in
      let now_left = count_is 512 a g.post (forward a cur 0) g.chain (g.links.at 0 (omega arith)) few in
      let then_left = count_is 512 a j.after (forward a nxt 0) r.1 (r.0.links.at 0 r.0.low) (omega arith) in
      omega arith

pub going_done : (a : List ℕ) (h key n : ℕ) (cut₀ sums₀ cut sums : List ℕ) (cur i : ℕ) → Going a h key n cut₀ sums₀ cut sums cur i → i ≤ 0 → (rs : List ℕ) → Searchable a h rs → CutAt a h key n rs cut sums
going_done a h key n cut₀ sums₀ cut sums cur i g z rs s =
    let same : g.rs ≡ rs = one_list a h g.rs rs g.list.linked s.linked in
    record {
      long = g.long;
      sums_long = g.sums_long;
      at = λ k e. g.done k (omega arith) e ∙ ap (λ (l : List ℕ). last_with a k h (front a key l)) same;
      sums_at = λ k e.
          g.sums_done k (omega arith) e ∙ ap (λ (l : List ℕ). adjust a (last_with a k h (front a key l)) k) same;
    }

-- The test of the search: record 0, which stands for none, is below the key as its m is.
pub floor_passes : (a : List ℕ) (r key m : ℕ) → Reachable a r × (1 ≤ key) → m ≡ word a r 1 → leb key m ≡ passes a r key
unfolding passes
floor_passes a r key m (reach, some) e =
    lt_or_ge 0 r (λ one. simp (le-leb 1 r one) (ap (leb key) e))
    (λ none.
    let zeroth : r ≡ 0 = omega arith in
    let low : m ≡ 0 = e ∙ ap (λ (x : ℕ). word a x 1) zeroth ∙ reach.floor in
    let under : m < key = omega arith in
    let few : r < 1 = omega arith in
    simp (lt-leb 1 r few, lt-leb key m under))
