-- What a port's peer says of the links, and that two links between the same switches are one.
use Rattle.std.proofs.Common.{◌≡◌, ℕ, zero, suc, ◌<◌, ◌↔◌, Bool, true, false, ◌==◌, ◌&&◌, if◌then◌else◌, List, [], ◌∷◌, length, get_or, refl, sym, ◌∙◌, ap, subst, arith, inl, inr, All, Any, Contains}
use Rattle.std.proofs.lemmas.Bool.{and_parts, cases_eq, cases_lt, eqb-true}
use Rattle.std.proofs.lemmas.Bool.Decides.{nat_tests}
use Rattle.std.proofs.lemmas.List.{get_or_default}
use Rattle.pl_wiring.specs.declared.label.SwitchNo.{SwitchNo}
use Rattle.pl_wiring.specs.declared.link.Link.{Link}
use Rattle.pl_wiring.specs.declared.link.Peer.{Peer}
use Rattle.pl_wiring.specs.declared.link.Peer.TheVariants.{Switch, HostPort}
use Rattle.pl_wiring.specs.FatTree.{IsAt, IsFatTree}
use Rattle.pl_wiring.specs.Peers.{HasEnds, LinksSwitches, IsPeer, peer_among, peer_of}
use Rattle.pl_wiring.specs.Plan.{IsPlan, Plan}
use Rattle.pl_wiring.proofs.Ends.{IsPeer-is, contained_at, link_rises, same_switch}

none_later : (l : Link) (links : List Link) (s p : ℕ) → (IsAt l s p → ⊥) → ((link : Link) → Contains links link → IsAt link s p → ⊥) →
    (link : Link) → Contains (l ∷ links) link → IsAt link s p → ⊥
none_later l links s p away none link (zero, within, is) at = away (subst (λ (m : Link). IsAt m s p) (sym is) at)
none_later l links s p away none link (suc n, within, is) at = none link (n, omega (arith, within), is) at

later : (l : Link) (links : List Link) (s p : ℕ) (peer : Peer) → (IsAt l s p → ⊥) → IsPeer links s p peer → IsPeer (l ∷ links) s p peer
later l links s p (Switch t q) away says = (says.0, (suc says.1.0, omega (arith, says.1.1), says.1.2), says.2)
later l links s p HostPort away none = none_later l links s p away none

-- what the function gives, the relation says
pub peer_says : (links : List Link) (s p : ℕ) → IsPeer links s p (peer_among links s p)
peer_says [] s p = λ link there at. absurd (omega (arith, there.1))
peer_says (l ∷ links) s p =
    by_ends ((l.lower.0 == s) && (l.lower_port == p)) ((l.upper.0 == s) && (l.upper_port == p)) refl refl (peer_says links s p)
  where
    ends : (a b c d : ℕ) → ((a == b) && (c == d)) ≡ true → (a ≡ b) × (c ≡ d)
    ends a b c d h = let both = and_parts (a == b) (c == d) h in (eqb-true a b both.0, eqb-true c d both.1)

    by_ends : (x y : Bool) → ((l.lower.0 == s) && (l.lower_port == p)) ≡ x → ((l.upper.0 == s) && (l.upper_port == p)) ≡ y →
        IsPeer links s p (peer_among links s p) →
        IsPeer (l ∷ links) s p (if x then Switch l.upper l.upper_port else if y then Switch l.lower l.lower_port else peer_among links s p)
    by_ends true y e f rest = let at = ends l.lower.0 s l.lower_port p e in (l, (zero, omega arith, refl), inl (at.0, at.1, refl, refl))
    by_ends false true e f rest = let at = ends l.upper.0 s l.upper_port p f in (l, (zero, omega arith, refl), inr (at.0, at.1, refl, refl))
    by_ends false false e f rest = later l links s p (peer_among links s p) (λ at. elim at [
      | inl low ↦ (let one = low.0 in let other = low.1 in grind (arith, nat_tests))
      | inr up ↦ (let one = up.0 in let other = up.1 in grind (arith, nat_tests))
    ]) rest

-- a port leads to another one exactly where a link has them as its ends
pub peer_is_switch : (plan : Plan) (s p : ℕ) (t : SwitchNo) (q : ℕ) → IsPlan plan → (peer_of plan s p ≡ Switch t q) ↔ Any (λ link. HasEnds link s p t.0 q) plan.links
peer_is_switch plan s p t q is = (
  λ same.
      let says : IsPeer plan.links s p (Switch t q) = subst (λ peer. IsPeer plan.links s p peer) same (peer_says plan.links s p) in
      (says.1.0, says.0, says.1.1, says.1.2, says.2),
  λ there. sym (IsPeer-is plan.k plan.links s p (Switch t q) is.tree (there.1, (there.0, there.2, there.3), there.4)),
)

-- and to none exactly where no link is at it
pub peer_is_none : (plan : Plan) (s p : ℕ) → IsPlan plan → (peer_of plan s p ≡ HostPort) ↔ All (λ link. IsAt link s p → ⊥) plan.links
peer_is_none plan s p is = (
  λ same.
      let none : IsPeer plan.links s p HostPort = subst (λ peer. IsPeer plan.links s p peer) same (peer_says plan.links s p) in
      λ n d within at. none (get_or plan.links n d) (contained_at plan.links n d within) at,
  λ none. sym (IsPeer-is plan.k plan.links s p HostPort is.tree (λ link there at. none there.0 link there.1 (subst (λ (m : Link). IsAt m s p) (sym there.2) at))),
)

-- two links between the same switches have one uplink
pub one_between : (k : ℕ) (links : List Link) (m n : ℕ) (d : Link) (a b : ℕ) → IsFatTree k links → m < length links → n < length links →
    LinksSwitches (get_or links m d) a b → LinksSwitches (get_or links n d) a b → m ≡ n
one_between k links m n d a b tree hm hn bm bn =
    let rm = link_rises k (get_or links m d) (tree.no_other m d hm) in
    let rn = link_rises k (get_or links n d) (tree.no_other n d hn) in
    let ends : ((get_or links m d).lower.0 ≡ (get_or links n d).lower.0) × ((get_or links m d).upper.0 ≡ (get_or links n d).upper.0) =
    elim bm [
      | inl em ↦ elim bn [ inl en ↦ (em.0 ∙ sym en.0, em.1 ∙ sym en.1) | inr en ↦ absurd (omega (arith, em.0, em.1, en.0, en.1)) ]
      | inr em ↦ elim bn [ inl en ↦ absurd (omega (arith, em.0, em.1, en.0, en.1)) | inr en ↦ (em.0 ∙ sym en.0, em.1 ∙ sym en.1) ]
    ] in
    elim (cases_lt m n) [
      | inl less ↦ absurd (tree.once m n d less hn (same_switch _ _ ends.0, same_switch _ _ ends.1))
      | inr more ↦ elim (cases_eq m n) [
        | inl same ↦ same
        | inr differ ↦ absurd (tree.once n m d (omega arith) hm (same_switch _ _ (sym ends.0), same_switch _ _ (sym ends.1)))
      ]
    ]

-- so they are one
pub same_between : (plan : Plan) (l m : Link) (a b : ℕ) → IsPlan plan → Contains plan.links l → Contains plan.links m → LinksSwitches l a b → LinksSwitches m a b → l ≡ m
same_between plan l m a b is there also_there bl bm =
    let at_l : get_or plan.links there.0 l ≡ l = there.2 in
    let at_m : get_or plan.links also_there.0 l ≡ m = get_or_default plan.links also_there.0 l m also_there.1 ∙ also_there.2 in
    let same = one_between plan.k plan.links there.0 also_there.0 l a b is.tree there.1 also_there.1
    (subst (λ (x : Link). LinksSwitches x a b) (sym at_l) bl) (subst (λ (x : Link). LinksSwitches x a b) (sym at_m) bm) in
    sym at_l ∙ ap (λ n. get_or plan.links n l) same ∙ at_m
