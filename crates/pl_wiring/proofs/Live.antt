-- The flags of live links: at first one at each end of each link, then with one link changed.
use Rattle.std.proofs.Common.{◌≡◌, ◌≢◌, ℕ, zero, suc, ◌*◌, ◌<◌, ◌↔◌, List, [], ◌∷◌, length, Bool, true, false, Option, None, get_or, map, refl, sym, ◌∙◌, ap, subst, arith, inl, inr, is_some, IsTrue, All, Any, Contains}
use Rattle.std.proofs.Math.ListN.{length-set, length-map}
use Rattle.std.proofs.lemmas.Bool.{cases_lt, cases_eq}
use Rattle.std.proofs.lemmas.List.{get_or_default}
use Rattle.pl_lemmas.proofs.Exports.{some_number}
use Rattle.pl_wiring.specs.declared.link.Link.{Link}
use Rattle.pl_wiring.specs.Labels.{switch_count}
use Rattle.pl_wiring.specs.FatTree.{IsAt, IsTreeLink, IsFatTree}
use Rattle.pl_wiring.specs.Index.{port_index, entry_at, look_at}
use Rattle.pl_wiring.specs.Tables.{FindsLinks}
use Rattle.pl_wiring.specs.Peers.{LinksSwitches}
use Rattle.pl_wiring.specs.Plan.{Plan}
use Rattle.pl_wiring.specs.LiveLinks.{LivePorts, is_live_at, is_live, IsFor}
use Rattle.pl_wiring.proofs.LinkOrder.{no_link}
use Rattle.pl_wiring.proofs.Ends.{at_contained}
use Rattle.pl_wiring.proofs.Linked.{one_between}
use Rattle.pl_wiring.proofs.Entered.{entry_at-in_range, entry_at-out_of_range, tree_ends, cases_IsAt, port_index-below, with_link, wrote_link, kept_link}

get_or_mapped : {X Y : Type 0} (f : X → Y) (xs : List X) (i : ℕ) (d : X) → get_or (map f xs) i (f d) ≡ f (get_or xs i d)
get_or_mapped f [] i d = refl
get_or_mapped f (x ∷ xs) zero d = refl
get_or_mapped f (x ∷ xs) (suc i) d = get_or_mapped f xs i d

entry_at-present : (k : ℕ) (table : List (Option ℕ)) (s p : ℕ) → entry_at false k (map is_some table) s p ≡ is_some (look_at k table (s, p))
entry_at-present k table s p = elim (cases_lt p k) [
  | inl less ↦ entry_at-in_range false k (map is_some table) s p less ∙ get_or_mapped is_some table (port_index k s p) None
      ∙ ap is_some (sym (entry_at-in_range None k table s p less))
  | inr more ↦ entry_at-out_of_range false k (map is_some table) s p more ∙ ap is_some (sym (entry_at-out_of_range None k table s p more))
]

abbrev flags_of : ℕ → List (Option ℕ) → LivePorts
flags_of k table = record { k = k; flags = map is_some table }

lower_present : (k : ℕ) (table : List (Option ℕ)) (links : List Link) → FindsLinks k table links → All (λ l. is_live (flags_of k table) l ≡ true) links
lower_present k table links index n d within =
    entry_at-present k table (get_or links n d).lower.0 (get_or links n d).lower_port
    ∙ ap is_some (index.knows n d ((get_or links n d).lower.0, (get_or links n d).lower_port) within (inl (refl, refl)))

upper_present : (k : ℕ) (table : List (Option ℕ)) (links : List Link) → FindsLinks k table links →
    All (λ l. is_live_at (flags_of k table) l.upper.0 l.upper_port ≡ true) links
upper_present k table links index n d within =
    entry_at-present k table (get_or links n d).upper.0 (get_or links n d).upper_port
    ∙ ap is_some (index.knows n d ((get_or links n d).upper.0, (get_or links n d).upper_port) within (inr (refl, refl)))

pub all_live : (k : ℕ) (table : List (Option ℕ)) (links : List Link) → FindsLinks k table links →
    All (λ l. IsTrue (is_live (flags_of k table) l)) links
all_live k table links index = lower_present k table links index

pub made_for_links : (plan : Plan) (table : List (Option ℕ)) → FindsLinks plan.k table plan.links → length table ≡ switch_count plan.k * plan.k →
    IsFor plan (flags_of plan.k table)
made_for_links plan table index room = record {
  same_k = refl;
  room = length-map table is_some ∙ room;
  agree = λ n d within. upper_present plan.k table plan.links index n d within ∙ sym (lower_present plan.k table plan.links index n d within);
  linked = λ s p live.
      let there = some_number (look_at plan.k table (s, p)) (sym (entry_at-present plan.k table s p) ∙ live) in
      let found = index.says (s, p) there.0 there.1 in
      (there.0, get_or plan.links there.0 no_link, found.0, get_or_default plan.links there.0 _ _ found.0, found.1 no_link);
}

-- what a flag says, in terms of the links
pub live_says : (plan : Plan) (states : LivePorts) (s p : ℕ) → IsFor plan states →
    IsTrue (is_live_at states s p) ↔ Any (λ l. IsAt l s p × IsTrue (is_live states l)) plan.links
live_says plan states s p for = (
  λ live.
      let there = for.linked s p live in
      let is : is_live states there.1 ≡ is_live_at states s p = elim there.4 [
        | inl low ↦ rw (low.0, low.1) refl
        | inr up ↦
            let same : is_live_at states there.1.upper.0 there.1.upper_port ≡ is_live states there.1 =
            at_contained (λ l. is_live_at states l.upper.0 l.upper_port ≡ is_live states l) plan.links there.1 for.agree (there.0, there.2, there.3) in
            sym same ∙ rw (up.0, up.1) refl
      ] in
      (there.0, there.1, there.2, there.3, (there.4, is ∙ live)),
  λ there.
      let same : is_live_at states there.1.upper.0 there.1.upper_port ≡ is_live states there.1 =
      at_contained (λ l. is_live_at states l.upper.0 l.upper_port ≡ is_live states l) plan.links there.1 for.agree (there.0, there.2, there.3) in
      elim there.4.0 [
        | inl low ↦ rw (← low.0, ← low.1) there.4.1
        | inr up ↦ rw (← up.0, ← up.1) (same ∙ there.4.1)
      ],
)

-- the flags with one link changed, at both its ends
abbrev pub with_live : LivePorts → Link → Bool → LivePorts
with_live states link live = record { k = states.k; flags = with_link states.k states.flags link live }

pub record Changes (plan : Plan) (states : LivePorts) (link : Link) (live : Bool) : Type 0 where
  pub at_link : (s p : ℕ) → IsAt link s p → is_live_at (with_live states link live) s p ≡ live
  pub elsewhere : (s p : ℕ) → (IsAt link s p → ⊥) → is_live_at (with_live states link live) s p ≡ is_live_at states s p

pub changes : (plan : Plan) (states : LivePorts) (link : Link) (live : Bool) → IsFatTree plan.k plan.links → IsFor plan states → Contains plan.links link →
    Changes plan states link live
changes plan states link live tree for there =
    let ends = tree_ends plan.k link (at_contained (IsTreeLink plan.k) plan.links link tree.no_other there) in
    let ports = at_contained (λ l. (l.lower_port < plan.k) × (l.upper_port < plan.k)) plan.links link tree.ports_in_range there in
    let Q : ℕ → Type 0 = (λ k. ((link.lower_port < k) × (link.upper_port < k)) × (length states.flags ≡ switch_count k * k)
    × ((link.lower.0 < switch_count k) × (link.upper.0 < switch_count k))) in
    let here : Q states.k = subst Q (sym for.same_k) (ports, for.room, ends) in
    record {
      at_link = λ s p at. wrote_link false states.k states.flags link live here.1 here.2 here.0 s p at;
      elsewhere = λ s p away. kept_link false states.k states.flags link live here.0 s p away;
    }

pub flags_within : (plan : Plan) (states : LivePorts) (link : Link) → IsFatTree plan.k plan.links → IsFor plan states → Contains plan.links link →
    (port_index states.k link.lower.0 link.lower_port < length states.flags) × (port_index states.k link.upper.0 link.upper_port < length states.flags)
flags_within plan states link tree for there =
    let ends = tree_ends plan.k link (at_contained (IsTreeLink plan.k) plan.links link tree.no_other there) in
    let ports = at_contained (λ l. (l.lower_port < plan.k) × (l.upper_port < plan.k)) plan.links link tree.ports_in_range there in
    rw (for.same_k, for.room) (port_index-below plan.k _ _ (switch_count plan.k) ends.0 ports.0, port_index-below plan.k _ _ (switch_count plan.k) ends.1 ports.1)

-- the number of a link, and those that share no port with it
apart_from : (k : ℕ) (links : List Link) (m n : ℕ) (d : Link) → IsFatTree k links → m < length links → n < length links → m ≢ n →
    (s p : ℕ) → IsAt (get_or links n d) s p → IsAt (get_or links m d) s p → ⊥
apart_from k links m n d tree hm hn differ s p at_n at_m = elim (cases_lt m n) [
  | inl less ↦ tree.ports_apart m n d less hn s p at_m at_n
  | inr more ↦ tree.ports_apart n m d (omega arith) hm s p at_n at_m
]

pub changed : (plan : Plan) (states : LivePorts) (link : Link) (live : Bool) (a b : ℕ) → IsFatTree plan.k plan.links → IsFor plan states →
    Contains plan.links link → LinksSwitches link a b → All (λ l. LinksSwitches l a b → is_live (with_live states link live) l ≡ live) plan.links
changed plan states link live a b tree for there between n d within now =
    let m = there.0 in
    let is : get_or plan.links m d ≡ link = get_or_default plan.links m d link there.1 ∙ there.2 in
    let same : m ≡ n = one_between plan.k plan.links m n d a b tree there.1 within (rw is between) now in
    let one : get_or plan.links n d ≡ link = ap (λ i. get_or plan.links i d) (sym same) ∙ is in
    let change = changes plan states link live tree for there in
    rw one (change.at_link link.lower.0 link.lower_port (inl (refl, refl)))

pub others : (plan : Plan) (states : LivePorts) (link : Link) (live : Bool) (a b : ℕ) → IsFatTree plan.k plan.links → IsFor plan states →
    Contains plan.links link → LinksSwitches link a b →
    All (λ l. (LinksSwitches l a b → ⊥) → is_live (with_live states link live) l ≡ is_live states l) plan.links
others plan states link live a b tree for there between n d within away =
    let m = there.0 in
    let is : get_or plan.links m d ≡ link = get_or_default plan.links m d link there.1 ∙ there.2 in
    let differ : m ≢ n = (λ same. away (subst (λ i. LinksSwitches (get_or plan.links i d) a b) same (rw is between))) in
    let change = changes plan states link live tree for there in
    change.elsewhere (get_or plan.links n d).lower.0 (get_or plan.links n d).lower_port
    (λ at. apart_from plan.k plan.links m n d tree there.1 within differ (get_or plan.links n d).lower.0 (get_or plan.links n d).lower_port (inl (refl, refl)) (rw is at))

pub made_for_changed : (plan : Plan) (states : LivePorts) (link : Link) (live : Bool) → IsFatTree plan.k plan.links → IsFor plan states →
    Contains plan.links link → IsFor plan (with_live states link live)
made_for_changed plan states link live tree for there =
    let change = changes plan states link live tree for there in
    let m = there.0 in
    record {
      same_k = for.same_k;
      room = rw (length-set, length-set) for.room;
      agree = λ n d within.
          let is : get_or plan.links m d ≡ link = get_or_default plan.links m d link there.1 ∙ there.2 in
          let l = get_or plan.links n d in
          elim (cases_eq m n) [
            | inl same ↦
                let one : get_or plan.links n d ≡ link = ap (λ i. get_or plan.links i d) (sym same) ∙ is in
                rw one (change.at_link link.upper.0 link.upper_port (inr (refl, refl)) ∙ sym (change.at_link link.lower.0 link.lower_port (inl (refl, refl))))
            | inr differ ↦
                change.elsewhere l.upper.0 l.upper_port (λ at. apart_from plan.k plan.links m n d tree there.1 within differ l.upper.0 l.upper_port (inr (refl, refl)) (rw is at))
                ∙ for.agree n d within
                ∙ sym (change.elsewhere l.lower.0 l.lower_port (λ at. apart_from plan.k plan.links m n d tree there.1 within differ l.lower.0 l.lower_port (inl (refl, refl)) (rw is at)))
          ];
      linked = λ s p now. elim (cases_IsAt link s p) [
        | inl at ↦ (m, link, there.1, there.2, at)
        | inr away ↦ for.linked s p (sym (change.elsewhere s p away) ∙ now)
      ];
    }
