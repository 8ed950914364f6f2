-- A place put into a ring, and one taken out of it.
use Rattle.std.proofs.Common.{◌≡◌, ℕ, ◌+◌, ◌≤◌, List, [], ◌∷◌, ◌++◌, map, sym, ap, ap₂, ◌∙◌, arith, append_assoc}
use Rattle.std.proofs.lemmas.List.{map-append}
use Rattle.flume_chain.specs.Links.{nil, with}
use Rattle.flume_chain.specs.ChainState.{once, times}
use Rattle.flume_chain.proofs.RingLemmas.{Ring, parts, ends, begins, times-append, once_same, once_back}
use Rattle.flume_chain.proofs.RingLemmas.{once_more, with_same, with_other, map_with}

-- if a ring is cut between the places xs and ys: the last ahead of the cut, and the head behind it
pub record Between (f g : ℕ → ℕ) (xs ys : List ℕ) : Type 0 where
  pub front : List ℕ
  pub last : ℕ
  pub head : ℕ
  pub rest : List ℕ
  pub ends : nil ∷ xs ≡ front ++ last ∷ []
  pub begins : ys ++ nil ∷ [] ≡ head ∷ rest
  pub ahead : map f front ≡ xs
  pub over : f last ≡ head
  pub behind : map f ys ≡ rest
  pub ahead_back : map g xs ≡ front
  pub over_back : g head ≡ last
  pub behind_back : map g rest ≡ ys
  pub apart : (k : ℕ) → times k front + once last k + times k ys ≤ 1
  pub apart_back : (k : ℕ) → times k xs + once head k + times k rest ≤ 1

-- each two lists that make up a ring meet so
pub between : (f g : ℕ → ℕ) (xs ys : List ℕ) → Ring f g (xs ++ ys) → Between f g xs ys
between f g xs ys r =
    let e = ends nil xs in
    let b = begins ys nil in
    let there : e.front ++ (e.last ∷ ys) ≡ nil ∷ (xs ++ ys) =
    sym (append_assoc e.front (e.last ∷ []) ys) ∙ ap (λ (l : List ℕ). l ++ ys) (sym e.is) in
    let back : xs ++ (b.head ∷ b.rest) ≡ (xs ++ ys) ++ nil ∷ [] =
    ap (λ (l : List ℕ). xs ++ l) (sym b.is) ∙ sym (append_assoc xs ys (nil ∷ [])) in
    let to : map f (e.front ++ (e.last ∷ ys)) ≡ xs ++ (b.head ∷ b.rest) =
    ap (map f) there ∙ r.forward ∙ sym back in
    let from : map g (xs ++ (b.head ∷ b.rest)) ≡ e.front ++ (e.last ∷ ys) =
    ap (map g) back ∙ r.backward ∙ sym there in
    let p = parts f e.front (e.last ∷ ys) xs (b.head ∷ b.rest) e.long to in
    let q = parts g xs (b.head ∷ b.rest) e.front (e.last ∷ ys) (sym e.long) from in
    let p_behind : f e.last ∷ map f ys ≡ b.head ∷ b.rest = p.behind in
    let q_behind : g b.head ∷ map g b.rest ≡ e.last ∷ ys = q.behind in
    record {
      front = e.front;
      last = e.last;
      head = b.head;
      rest = b.rest;
      ends = e.is;
      begins = b.is;
      ahead = p.ahead;
      over = cc;
      behind = cc;
      ahead_back = q.ahead;
      over_back = cc;
      behind_back = cc;
      apart = λ k.
          let a = times-append k e.front (e.last ∷ ys) in
          let s = ap (times k) there in
          let h = r.apart k in
          omega arith;
      apart_back = λ k.
          let a = times-append k xs (b.head ∷ b.rest) in
          let s = ap (times k) back in
          let d = times-append k (xs ++ ys) (nil ∷ []) in
          let h = r.apart k in
          omega arith;
    }

-- equal lists joined
joined : {us vs ws zs : List ℕ} → us ≡ ws → vs ≡ zs → us ++ vs ≡ ws ++ zs
joined p q = ap₂ (λ (ks ls : List ℕ). ks ++ ls) p q

-- equal lists with an equal place ahead
one : {a c : ℕ} {us ws : List ℕ} → a ≡ c → us ≡ ws → a ∷ us ≡ c ∷ ws
one p q = ap₂ (λ (y : ℕ) (ys : List ℕ). y ∷ ys) p q

-- equal lists with two equal places ahead
two : {a b c d : ℕ} {us ws : List ℕ} → a ≡ c → b ≡ d → us ≡ ws → a ∷ b ∷ us ≡ c ∷ d ∷ ws
two p q r = one p (one q r)

-- the ring with the place c put in at the cut
pub inserted : (f g : ℕ → ℕ) (xs ys : List ℕ) (c : ℕ) → Ring f g (xs ++ ys) → (r : Between f g xs ys)
    → times c (nil ∷ (xs ++ ys)) ≡ 0
    → Ring (with (with f c r.head) r.last c) (with (with g c r.last) r.head c) (xs ++ c ∷ ys)
inserted f g xs ys c old r fresh =
    let there : nil ∷ (xs ++ c ∷ ys) ≡ r.front ++ (r.last ∷ c ∷ ys) =
    ap (λ (l : List ℕ). l ++ c ∷ ys) r.ends ∙ append_assoc r.front (r.last ∷ []) (c ∷ ys) in
    let back : (xs ++ c ∷ ys) ++ nil ∷ [] ≡ xs ++ (c ∷ r.head ∷ r.rest) =
    append_assoc xs (c ∷ ys) (nil ∷ []) ∙ ap (λ (l : List ℕ). xs ++ (c ∷ l)) r.begins in
    let counts : (k : ℕ) → times k (nil ∷ (xs ++ ys)) ≡ times k r.front + once r.last k + times k ys = λ k.
    let a = times-append k xs ys in
    let s = ap (times k) r.ends in
    let d = times-append k r.front (r.last ∷ []) in
    omega arith in
    let counts_back : (k : ℕ) → times k (nil ∷ (xs ++ ys)) ≡ times k xs + once r.head k + times k r.rest = λ k.
    let a = times-append k xs ys in
    let s = ap (times k) r.begins in
    let d = times-append k ys (nil ∷ []) in
    omega arith in
    let c_none = counts c in
    let c_none_back = counts_back c in
    let last_once = r.apart r.last in
    let last_is = once_same r.last in
    let head_once = r.apart_back r.head in
    let head_is = once_same r.head in
    let not_last : once c r.last ≡ 0 = once_back r.last c (omega arith) in
    let not_head : once c r.head ≡ 0 = once_back r.head c (omega arith) in
    let f' : ℕ → ℕ = with (with f c r.head) r.last c in
    let g' : ℕ → ℕ = with (with g c r.last) r.head c in
    let f_front : map f' r.front ≡ xs =
    map_with (with f c r.head) r.last c r.front (omega arith) ∙ map_with f c r.head r.front (omega arith) ∙ r.ahead in
    let f_last : f' r.last ≡ c = with_same (with f c r.head) r.last c in
    let f_c : f' c ≡ r.head = with_other (with f c r.head) r.last c c not_last ∙ with_same f c r.head in
    let f_ys : map f' ys ≡ r.rest =
    map_with (with f c r.head) r.last c ys (omega arith) ∙ map_with f c r.head ys (omega arith) ∙ r.behind in
    let g_rest : map g' r.rest ≡ ys =
    map_with (with g c r.last) r.head c r.rest (omega arith) ∙ map_with g c r.last r.rest (omega arith) ∙ r.behind_back in
    let g_head : g' r.head ≡ c = with_same (with g c r.last) r.head c in
    let g_c : g' c ≡ r.last = with_other (with g c r.last) r.head c c not_head ∙ with_same g c r.last in
    let g_xs : map g' xs ≡ r.front =
    map_with (with g c r.last) r.head c xs (omega arith) ∙ map_with g c r.last xs (omega arith) ∙ r.ahead_back in
    record {
      forward = ap (map f') there ∙ map-append f' r.front (r.last ∷ c ∷ ys) ∙ joined f_front (two f_last f_c f_ys) ∙ sym back;
      backward = ap (map g') back ∙ map-append g' xs (c ∷ r.head ∷ r.rest) ∙ joined g_xs (two g_c g_head g_rest) ∙ sym there;
      apart = λ k.
          let h = once_more (λ x. times x (nil ∷ (xs ++ ys))) c k fresh (old.apart k) in
          let a = times-append k xs ys in
          let d = times-append k xs (c ∷ ys) in
          omega arith;
    }

-- if a place c is in a ring: the last ahead of it, and the head behind it
pub record Around (f g : ℕ → ℕ) (xs : List ℕ) (c : ℕ) (ys : List ℕ) : Type 0 where
  pub front : List ℕ
  pub last : ℕ
  pub head : ℕ
  pub rest : List ℕ
  pub ends : nil ∷ xs ≡ front ++ last ∷ []
  pub begins : ys ++ nil ∷ [] ≡ head ∷ rest
  pub ahead : map f front ≡ xs
  pub to : f last ≡ c
  pub from : f c ≡ head
  pub behind : map f ys ≡ rest
  pub ahead_back : map g xs ≡ front
  pub to_back : g head ≡ c
  pub from_back : g c ≡ last
  pub behind_back : map g rest ≡ ys
  pub apart : (k : ℕ) → times k front + once last k + once c k + times k ys ≤ 1
  pub apart_back : (k : ℕ) → times k xs + once c k + once head k + times k rest ≤ 1

-- each place of a ring is so
pub around : (f g : ℕ → ℕ) (xs : List ℕ) (c : ℕ) (ys : List ℕ) → Ring f g (xs ++ c ∷ ys) → Around f g xs c ys
around f g xs c ys ring =
    let r = between f g xs (c ∷ ys) ring in
    let b = begins ys nil in
    let r_begins : c ∷ (ys ++ nil ∷ []) ≡ r.head ∷ r.rest = r.begins in
    let head_is : r.head ≡ c = cc in
    let rest_is : r.rest ≡ b.head ∷ b.rest = let tails : ys ++ nil ∷ [] ≡ r.rest = cc in sym tails ∙ b.is in
    let out : f c ∷ map f ys ≡ b.head ∷ b.rest = r.behind ∙ rest_is in
    let into : g b.head ∷ map g b.rest ≡ c ∷ ys = ap (map g) (sym rest_is) ∙ r.behind_back in
    record {
      front = r.front;
      last = r.last;
      head = b.head;
      rest = b.rest;
      ends = r.ends;
      begins = b.is;
      ahead = r.ahead;
      to = r.over ∙ head_is;
      from = cc;
      behind = cc;
      ahead_back = r.ahead_back;
      to_back = cc;
      from_back = ap g (sym head_is) ∙ r.over_back;
      behind_back = cc;
      apart = λ k. let h = r.apart k in omega arith;
      apart_back = λ k.
          let h = r.apart_back k in
          let s = ap (times k) rest_is in
          let d = ap (λ x. once x k) head_is in
          omega arith;
    }

-- the ring with the place c taken out of it, and v written as what is after it
pub removed : (f g : ℕ → ℕ) (xs : List ℕ) (c : ℕ) (ys : List ℕ) (v : ℕ) → Ring f g (xs ++ c ∷ ys) → (r : Around f g xs c ys)
    → Ring (with (with f r.last r.head) c v) (with g r.head r.last) (xs ++ ys)
removed f g xs c ys v old r =
    let there : nil ∷ (xs ++ ys) ≡ r.front ++ (r.last ∷ ys) =
    ap (λ (l : List ℕ). l ++ ys) r.ends ∙ append_assoc r.front (r.last ∷ []) ys in
    let back : (xs ++ ys) ++ nil ∷ [] ≡ xs ++ (r.head ∷ r.rest) =
    append_assoc xs ys (nil ∷ []) ∙ ap (λ (l : List ℕ). xs ++ l) r.begins in
    let last_once = r.apart r.last in
    let last_is = once_same r.last in
    let c_once = r.apart c in
    let c_is = once_same c in
    let head_once = r.apart_back r.head in
    let head_is = once_same r.head in
    let f' : ℕ → ℕ = with (with f r.last r.head) c v in
    let g' : ℕ → ℕ = with g r.head r.last in
    let f_front : map f' r.front ≡ xs =
    map_with (with f r.last r.head) c v r.front (omega arith) ∙ map_with f r.last r.head r.front (omega arith) ∙ r.ahead in
    let f_last : f' r.last ≡ r.head =
    with_other (with f r.last r.head) c v r.last (omega arith) ∙ with_same f r.last r.head in
    let f_ys : map f' ys ≡ r.rest =
    map_with (with f r.last r.head) c v ys (omega arith) ∙ map_with f r.last r.head ys (omega arith) ∙ r.behind in
    let g_xs : map g' xs ≡ r.front = map_with g r.head r.last xs (omega arith) ∙ r.ahead_back in
    let g_head : g' r.head ≡ r.last = with_same g r.head r.last in
    let g_rest : map g' r.rest ≡ ys = map_with g r.head r.last r.rest (omega arith) ∙ r.behind_back in
    record {
      forward = ap (map f') there ∙ map-append f' r.front (r.last ∷ ys) ∙ joined f_front (one f_last f_ys) ∙ sym back;
      backward = ap (map g') back ∙ map-append g' xs (r.head ∷ r.rest) ∙ joined g_xs (one g_head g_rest) ∙ sym there;
      apart = λ k.
          let h = old.apart k in
          let a = times-append k xs ys in
          let d = times-append k xs (c ∷ ys) in
          omega arith;
    }
