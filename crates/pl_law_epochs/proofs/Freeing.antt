-- An edge switch hears that an address is released: it is free from then on.
use Rattle.std.proofs.Common.{◌≡◌, ◌<◌, ◌-◌, ℕ, Bool, true, false, set, List, [], ◌∷◌, ◌++◌, length, Option, Some, is_some, refl, sym, ap, subst, ◌∙◌, inl, inr, append-nil}
use Rattle.std.specs.List.{AllByRecursion}
use Rattle.std.specs.Option.{option_map}
use Rattle.std.proofs.lemmas.Bool.{false≢true}
use Rattle.std.proofs.lemmas.Option.{none-some, same_Some}
use Rattle.pl_frame.specs.declared.address.Ip4.{Ip4}
use Rattle.pl_frame.specs.declared.address.Mac.{Mac}
use Rattle.pl_frame.specs.declared.address.SwitchId.{SwitchId}
use Rattle.pl_pmac.specs.declared.pmac.Pmac.{Pmac}
use Rattle.pl_layouts.specs.Equality.{same_pmac}
use Rattle.pl_node.specs.AddressUses.{is_held, is_in_use, standing_trap}
use Rattle.pl_node.specs.declared.acts.Act.TheVariants as act
use Rattle.pl_node.specs.declared.address_use.AddressUse.{AddressUse}
use Rattle.pl_node.specs.declared.address_use.AddressUse.TheVariants.{Free, InUse, Resting, Trapped}
use Rattle.pl_node.specs.declared.messages.ToManager.{ToManager}
use Rattle.pl_node.specs.declared.messages.ToManager.TheVariants as tell
use Rattle.pl_node.specs.declared.messages.ToSwitch.{ToSwitch}
use Rattle.pl_node.specs.declared.messages.ToSwitch.TheVariants as say
use Rattle.pl_node.specs.declared.switch_records.Grant.{Grant}
use Rattle.pl_node.specs.ManagerViews.{Reported}
use Rattle.pl_node.specs.SwitchViews.{SwitchView}
use Rattle.pl_steps.specs.Steps.{SwitchStep, does}
use Rattle.pl_switch_rule.specs.Granting.{freed_at, granted, grants_at, is_local, with_grants}
use Rattle.pl_switch_rule.specs.Messages.{becomes_free, frees, frees_at}
use Rattle.pl_switch_rule.proofs.Exports.{granted_parts}
use Rattle.pl_law_addresses.specs.FreeVmids.{AreFreeVmids}
use Rattle.pl_law_addresses.specs.OwnAddresses.{IsOwnIp}
use Rattle.pl_law_addresses.specs.EdgeAddresses.{Edge, IsHeldFor, edge_of}
use Rattle.pl_law_addresses.proofs.Exports.{freed_free, granted_within, is_or_other, local_settled, now_at, number_set_other, number_set_same, number_within, other_turned, others_at, table_alike, table_with_free, told_by}
use Rattle.pl_law_epochs.specs.Edges.{IsGoodEdge, IsGoodOrder, IsGoodWord, Registry, tenure_at}
use Rattle.pl_law_epochs.specs.Situations.{IsIn}
use Rattle.pl_law_epochs.specs.Tenures.{Order, Said, Tenure, knowledge, order_of, orders_on, said_of, use_of, words_on}
use Rattle.pl_law_epochs.specs.Tenures.Knowledge.{Nothing}
use Rattle.pl_law_epochs.specs.Tenures.Order.{Recalls, Releases}
use Rattle.pl_law_epochs.specs.Tenures.Said.{Ages, Learns, Traps}
use Rattle.pl_law_epochs.specs.Tenures.Use.{Nobodys, Rests}
use Rattle.pl_law_epochs.proofs.Lives.{IsReleased, frees as frees_situation}
use Rattle.pl_law_epochs.proofs.Moves.{MovesBy, moves_but}
use Rattle.pl_law_epochs.proofs.Rows.{Good}
use Rattle.pl_law_epochs.proofs.Staying.{aged_here, aged_there, knows_same, ordered_here, ordered_there, released_here, released_there, situation_kept, told_here, told_there, trap_here, trap_there}

rests_as : (h : AddressUse) (number : ℕ) → use_of (Some h) ≡ Rests number → h ≡ Resting number
rests_as (InUse idle) number is = absurd (cc)
rests_as (Trapped trap age) number is = absurd (cc)
rests_as (Resting n) number is = let same : n ≡ number = cc in ap Resting same
rests_as Free number is = absurd (cc)

known_something : (registered : Bool) (known : Reported) → knowledge registered (Some known) ≡ Nothing → ⊥
known_something registered known is = absurd (cc)

-- ---- words about other addresses stay good where one is freed
held_other : (f g : Pmac → Option Grant) (x : Pmac) → ((y : Pmac) → same_pmac y x ≡ false → g y ≡ f y) → (y : Pmac) (mac : Mac) → same_pmac y x ≡ false → IsHeldFor f y mac →
    IsHeldFor g y mac
held_other f g x others y mac other h = record { grant = h.grant; found = others y other ∙ h.found; held = h.held; to = h.to }

module _ (own : Mac → Option Ip4) (f g : Pmac → Option Grant) (x : Pmac) (others : (y : Pmac) → same_pmac y x ≡ false → g y ≡ f y) where
  none_before : (word : Said) (up : List Said) → (w : List Said) → w ≡ word ∷ [] → w ++ up ≡ [] → ⊥
  none_before word up w is none = let e : word ∷ up ≡ [] = sym (ap (λ ws. ws ++ up) is) ∙ none in absurd (cc)

  none_ordered : (order : Order) (down : List Order) → (o : List Order) → o ≡ order ∷ [] → o ++ down ≡ [] → ⊥
  none_ordered order down o is none = let e : order ∷ down ≡ [] = sym (ap (λ os. os ++ down) is) ∙ none in absurd (cc)

  pub words_left : (up : List ToManager) → words_on x up ≡ [] → AllByRecursion (IsGoodWord own f) up → AllByRecursion (IsGoodWord own g) up
  words_left [] none all = tt
  words_left (tell.Learned y amac ip ∷ up) none all = elim (is_or_other y x) [
    | inl same ↦
        absurd (none_before Learns (words_on x up) (said_of x (tell.Learned y amac ip)) (ap (λ z. said_of z (tell.Learned y amac ip)) (sym same) ∙ told_here y amac ip) none)
    | inr other ↦
        ((held_other f g x others y amac other all.0.0, all.0.1), words_left up (sym (ap (λ ws. ws ++ words_on x up) (told_there y x amac ip other)) ∙ none) all.1)
  ]
  words_left (tell.Aged y number ∷ up) none all = elim (is_or_other y x) [
    | inl same ↦
        absurd (none_before (Ages number) (words_on x up) (said_of x (tell.Aged y number)) (ap (λ z. said_of z (tell.Aged y number)) (sym same) ∙ aged_here y number) none)
    | inr other ↦
        ((all.0.0, held_other f g x others y all.0.0 other all.0.1), words_left up (sym (ap (λ ws. ws ++ words_on x up) (aged_there y x number other)) ∙ none) all.1)
  ]
  words_left (tell.Place place ∷ up) none all = (tt, words_left up none all.1)
  words_left (tell.Link u usable ∷ up) none all = (tt, words_left up none all.1)
  words_left (tell.PodWanted ∷ up) none all = (tt, words_left up none all.1)
  words_left (tell.Begin epoch ∷ up) none all = (tt, words_left up none all.1)
  words_left (tell.End epoch ∷ up) none all = (tt, words_left up none all.1)
  words_left (tell.Trapped y new number ∷ up) none all = elim (is_or_other y x) [
    | inl same ↦
        absurd (none_before (Traps (record { new = new; number = number })) (words_on x up) (said_of x (tell.Trapped y new number))
        (ap (λ z. said_of z (tell.Trapped y new number)) (sym same) ∙ trap_here y new number) none)
    | inr other ↦
        ((all.0.0, held_other f g x others y all.0.0 other all.0.1), words_left up (sym (ap (λ ws. ws ++ words_on x up) (trap_there y x new number other)) ∙ none) all.1)
  ]
  words_left (tell.Query asker asker_ip ip ∷ up) none all = (tt, words_left up none all.1)
  words_left (tell.Members group any ∷ up) none all = (tt, words_left up none all.1)

  pub orders_left : (down : List ToSwitch) → orders_on x down ≡ [] → AllByRecursion (IsGoodOrder own f) down → AllByRecursion (IsGoodOrder own g) down
  orders_left [] none all = tt
  orders_left (say.Invalidate y new number ip ∷ down) none all = elim (is_or_other y x) [
    | inl same ↦
        absurd (none_ordered (Recalls (record { new = new; number = number })) (orders_on x down) (order_of x (say.Invalidate y new number ip))
        (ap (λ z. order_of z (say.Invalidate y new number ip)) (sym same) ∙ ordered_here y new number ip) none)
    | inr other ↦
        let it = all.0 in (
          record { mac = it.mac; granted_to = held_other f g x others y it.mac other it.granted_to; own_ip = it.own_ip },
          orders_left down (sym (ap (λ os. os ++ orders_on x down) (ordered_there y x new number ip other)) ∙ none) all.1,
        )
  ]
  orders_left (say.Release y ∷ down) none all = elim (is_or_other y x) [
    | inl same ↦
        absurd (none_ordered Releases (orders_on x down) (order_of x (say.Release y)) (ap (λ z. order_of z (say.Release y)) (sym same) ∙ released_here y) none)
    | inr other ↦
        ((all.0.0, held_other f g x others y all.0.0 other all.0.1), orders_left down (sym (ap (λ os. os ++ orders_on x down) (released_there y x other)) ∙ none) all.1)
  ]
  orders_left (say.Pod pod ∷ down) none all = (tt, orders_left down none all.1)
  orders_left (say.Answer asker asker_ip ip pmac ∷ down) none all = (tt, orders_left down none all.1)
  orders_left (say.Flood asker asker_ip ip ∷ down) none all = (tt, orders_left down none all.1)
  orders_left (say.Avoid list ∷ down) none all = (tt, orders_left down none all.1)
  orders_left (say.Hello epoch ∷ down) none all = (tt, orders_left down none all.1)
  orders_left (say.Tree group part ∷ down) none all = (tt, orders_left down none all.1)

-- ---- the release is heard
module _ (own : Mac → Option Ip4) (r : Registry) (id : Option SwitchId) (rest : List ToSwitch) (x : Pmac) where
  pub record Freed (v : SwitchView) (up : List ToManager) (s : SwitchStep) : Type 0 where
    pub good : Good own r id rest s.view (up ++ told_by s.acts)
    pub place : s.view.place ≡ v.place
    pub moves : MovesBy (say.Release x) (λ z. granted v z) (λ z. granted s.view z)

  module _ (v : SwitchView) (up : List ToManager) (good : Good own r id (say.Release x ∷ rest) v up) (g : Grant) (was : granted v x ≡ Some g) where
    abbrev freed : Grant
    freed = record g { held = Free }

    abbrev list : List Grant
    list = set (grants_at v x.port) (x.vmid - 1) freed

    abbrev e : Edge
    e = edge_of id v up (say.Release x ∷ rest)

    here : is_local v x ≡ true
    here = (granted_parts v x g was).0

    released : IsReleased r.later (tenure_at r e x) (orders_on x rest)
    released = frees_situation r.later (tenure_at r e x) (good.edge.situations x here) (orders_on x rest) (ap (λ os. os ++ orders_on x rest) (released_here x))

    held_is : g.held ≡ Resting released.number
    held_is = rests_as g.held released.number (sym (ap (λ (o : Option Grant). use_of (option_map (λ (h : Grant). h.held) o)) was) ∙ released.rested)

    record IsFreeNow : Type 0 where
      within : x.port < v.k
      now : granted (with_grants v x.port list) x ≡ Some freed
      others : (y : Pmac) → same_pmac y x ≡ false → granted (with_grants v x.port list) y ≡ granted v y
      free : AreFreeVmids list (freed_at v x.port ++ x.vmid ∷ [])

    free_now : IsFreeNow
    free_now =
        let parts = granted_parts v x g was in
        let within : x.port < v.k = granted_within v x g was good.address_table.many in
        let many : x.port < length v.grants = subst (λ n. x.port < n) (sym good.address_table.many) within in
        let some = (number_within (grants_at v x.port) x.vmid g parts.1).0 in
        record {
          within = within;
          now = now_at v x list many parts.0 ∙ number_set_same (grants_at v x.port) x.vmid g freed parts.1;
          others = others_at v x list many parts.0 (λ n other. number_set_other (grants_at v x.port) x.vmid n freed some other);
          free = freed_free (grants_at v x.port) (freed_at v x.port) x.vmid g freed (good.address_table.free x.port) parts.1 (ap is_held held_is) refl;
        }

    abbrev f : Pmac → Option Grant
    f y = granted (with_grants v x.port list) y

    free_edge : IsGoodEdge own r (record e { granted = f; down = rest })
    free_edge =
        let it = free_now in
        let gone = released in
        record {
          placed = λ y h is. elim (is_or_other y x) [
            | inl same ↦ ap (λ z. is_local v z) same ∙ here
            | inr other ↦ good.edge.placed y h (sym (it.others y other) ∙ is)
          ];
          grants = λ y h is. elim (is_or_other y x) [
            | inl same ↦
                let grant : freed ≡ h = same_Some freed h (sym it.now ∙ ap f (sym same) ∙ is) in
                let unused = ap (λ (q : Grant). q.held) (sym grant) in
                record {
                  own_ip = subst (λ (q : Grant). IsOwnIp own q.amac q.ip) grant (good.edge.grants x g was).own_ip;
                  told_ip = λ loud used ip has. absurd (false≢true (sym (ap is_in_use unused) ∙ used));
                  trap_ip = λ trap set. absurd (none-some trap (sym (ap standing_trap unused) ∙ set));
                }
            | inr other ↦ let q = good.edge.grants y h (sym (it.others y other) ∙ is) in record { own_ip = q.own_ip; told_ip = q.told_ip; trap_ip = q.trap_ip }
          ];
          situations = λ y at. elim (is_or_other y x) [
            | inl same ↦
                let path : record (tenure_at r e x) { use_is = Nobodys; orders = orders_on x rest } ≡ tenure_at r (record e { granted = f; down = rest }) x =
                λ i. record (tenure_at r e x) { use_is = use_of (option_map (λ (h : Grant). h.held) (sym it.now i)); orders = orders_on x rest } in
                subst (λ (z : Pmac). IsIn r.later (tenure_at r (record e { granted = f; down = rest }) z)) (sym same) (subst (λ (t : Tenure). IsIn r.later t) path gone.then_in)
            | inr other ↦
                situation_kept r r e (record e { granted = f; down = rest }) y refl (knows_same r y) (it.others y other) refl
                (sym (ap (λ os. os ++ orders_on y rest) (released_there x y (other_turned y x other)))) refl (good.edge.situations y at)
          ];
          words = words_left own e.granted f x it.others up gone.nothing_due good.edge.words;
          orders = orders_left own e.granted f x it.others rest gone.last good.edge.orders.1;
          unheard = good.edge.unheard;
          tellers = good.edge.tellers;
          here = λ y reg is at. elim (is_or_other y x) [
            | inl same ↦
                let known = (good.edge.here x reg (ap r.at (sym same) ∙ is) here).too in
                absurd (known_something (is_some (r.at x)) known.known (sym (ap (knowledge (is_some (r.at x))) known.found) ∙ gone.unknown))
            | inr other ↦ let h = good.edge.here y reg is at in record { too = h.too; granted_to = held_other e.granted f x it.others y reg.amac other h.granted_to }
          ];
        }

    free_step : Freed v up (does (becomes_free v x g) (act.Free x ∷ []))
    free_step =
        let it = free_now in
        record {
          good = record {
            edge = subst (λ (ts : List ToManager). IsGoodEdge own r (record e { granted = f; up = ts; down = rest })) (sym (append-nil up)) free_edge;
            address_table = table_alike own (record (with_grants v x.port list) { freed = set v.freed x.port (freed_at v x.port ++ x.vmid ∷ []) }) (becomes_free v x g)
                refl refl refl refl refl
                (table_with_free own v x.port list (local_settled v x here) it.within good.address_table (freed_at v x.port ++ x.vmid ∷ []) it.free);
          };
          place = refl;
          moves = moves_but (say.Release x) (λ z. granted v z) (λ z. granted (becomes_free v x g) z) x freed it.now it.others (λ mac held. inr refl) (λ trap set. absurd (none-some trap set));
        }

  pub release_good : (v : SwitchView) (up : List ToManager) → Good own r id (say.Release x ∷ rest) v up → Freed v up (frees v x (granted v x))
  release_good v up good =
      let it = good.edge.orders.0.1 in
      subst (λ (o : Option Grant). Freed v up (frees v x o)) (sym it.found)
      (subst (λ (h : AddressUse). Freed v up (frees_at v x it.grant h)) (sym (held_is v up good it.grant it.found)) (free_step v up good it.grant it.found))
