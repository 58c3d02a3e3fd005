-- What keeps the addresses of an edge switch in order: more is told, an order is taken that speaks of none, and one address is changed.
use Rattle.std.proofs.Common.{◌≡◌, ◌||◌, Bool, true, false, List, [], ◌∷◌, ◌++◌, Option, Some, refl, sym, ap, subst, ◌∙◌, inl, inr}
use Rattle.std.specs.List.{AllByRecursion}
use Rattle.std.proofs.lemmas.Option.{same_Some}
use Rattle.pl_lemmas.proofs.Exports.{all_append}
use Rattle.pl_frame.specs.declared.address.Ip4.{Ip4}
use Rattle.pl_frame.specs.declared.address.Mac.{Mac}
use Rattle.pl_pmac.specs.declared.pmac.Pmac.{Pmac}
use Rattle.pl_layouts.specs.Equality.{same_pmac}
use Rattle.pl_node.specs.declared.messages.ToManager.{ToManager}
use Rattle.pl_node.specs.declared.messages.ToManager.TheVariants as tell
use Rattle.pl_node.specs.declared.messages.ToSwitch.{ToSwitch}
use Rattle.pl_node.specs.declared.messages.ToSwitch.TheVariants as say
use Rattle.pl_node.specs.declared.switch_records.Grant.{Grant}
use Rattle.pl_law_due.specs.Due.{is_hello}
use Rattle.pl_law_addresses.specs.EdgeAddresses.{Edge, KeepsHolders, tells_ip}
use Rattle.pl_law_addresses.proofs.Exports.{any_before, is_or_other, StaysTo}
use Rattle.pl_law_epochs.specs.Edges.{IsGoodEdge, IsGoodGrant, IsGoodOrder, IsGoodWord, Registry, is_unheard, tenure_at}
use Rattle.pl_law_epochs.specs.Situations.{IsIn}
use Rattle.pl_law_epochs.specs.Tenures.{order_of, orders_on, words_on}
use Rattle.pl_law_epochs.proofs.Staying.{knows_same, situation_kept, words_aside}

module _ (own : Mac → Option Ip4) where
  word_kept : (f g : Pmac → Option Grant) → KeepsHolders f g → (word : ToManager) → IsGoodWord own f word → IsGoodWord own g word
  word_kept f g keeps (tell.Learned x amac ip) is = (keeps x amac is.0, is.1)
  word_kept f g keeps (tell.Place place) is = tt
  word_kept f g keeps (tell.Link u usable) is = tt
  word_kept f g keeps tell.PodWanted is = tt
  word_kept f g keeps (tell.Aged x number) is = (is.0, keeps x is.0 is.1)
  word_kept f g keeps (tell.Begin epoch) is = tt
  word_kept f g keeps (tell.End epoch) is = tt
  word_kept f g keeps (tell.Trapped x new number) is = (is.0, keeps x is.0 is.1)
  word_kept f g keeps (tell.Query asker asker_ip ip) is = tt
  word_kept f g keeps (tell.Members group any) is = tt

  pub words_kept : (f g : Pmac → Option Grant) → KeepsHolders f g → (words : List ToManager) → AllByRecursion (IsGoodWord own f) words →
      AllByRecursion (IsGoodWord own g) words
  words_kept f g keeps [] all = tt
  words_kept f g keeps (word ∷ words) all = (word_kept f g keeps word all.0, words_kept f g keeps words all.1)

  order_kept : (f g : Pmac → Option Grant) → KeepsHolders f g → (order : ToSwitch) → IsGoodOrder own f order → IsGoodOrder own g order
  order_kept f g keeps (say.Invalidate old new number ip) is = record { mac = is.mac; granted_to = keeps old is.mac is.granted_to; own_ip = is.own_ip }
  order_kept f g keeps (say.Release x) is = (is.0, keeps x is.0 is.1)
  order_kept f g keeps (say.Hello epoch) is = tt
  order_kept f g keeps (say.Pod pod) is = tt
  order_kept f g keeps (say.Answer asker asker_ip ip pmac) is = tt
  order_kept f g keeps (say.Flood asker asker_ip ip) is = tt
  order_kept f g keeps (say.Avoid list) is = tt
  order_kept f g keeps (say.Tree group part) is = tt

  pub orders_kept : (f g : Pmac → Option Grant) → KeepsHolders f g → (orders : List ToSwitch) →
      AllByRecursion (IsGoodOrder own f) orders → AllByRecursion (IsGoodOrder own g) orders
  orders_kept f g keeps [] all = tt
  orders_kept f g keeps (order ∷ orders) all = (order_kept f g keeps order all.0, orders_kept f g keeps orders all.1)

module _ (own : Mac → Option Ip4) (r : Registry) where
  -- a grant stays good where no less is told
  pub grant_more : (before after : Bool) (up more : List ToManager) (x : Pmac) (g : Grant) → after ≡ before → IsGoodGrant own r before up x g → IsGoodGrant own r after (up ++ more) x g
  grant_more before after up more x g same good = record {
    own_ip = good.own_ip;
    told_ip = λ loud used ip is. elim (good.told_ip (sym same ∙ loud) used ip is) [ inl known ↦ inl known | inr waits ↦ inr (any_before (tells_ip x) up more waits) ];
    trap_ip = good.trap_ip;
  }

  -- more good words are told, which speak of no address
  pub tells_more : (e : Edge) (more : List ToManager) → AllByRecursion (IsGoodWord own e.granted) more → ((x : Pmac) → words_on x more ≡ []) → IsGoodEdge own r e →
      IsGoodEdge own r (record e { up = e.up ++ more })
  tells_more e more words silent good = record {
    placed = good.placed;
    grants = λ x g is. grant_more (is_unheard e.down) (is_unheard e.down) e.up more x g refl (good.grants x g is);
    situations = λ x at. situation_kept r r e (record e { up = e.up ++ more }) x refl (knows_same r x) refl (words_aside x e.up more (silent x)) refl refl (good.situations x at);
    words = all_append (IsGoodWord own e.granted) e.up more good.words words;
    orders = good.orders;
    unheard = good.unheard;
    tellers = good.tellers;
    here = good.here;
  }

  -- an order is taken that speaks of no address, nor of a new epoch
  pub takes_order : (e : Edge) (order : ToSwitch) (rest : List ToSwitch) → ((x : Pmac) → order_of x order ≡ []) → is_hello order ≡ false →
      IsGoodEdge own r (record e { down = order ∷ rest }) → IsGoodEdge own r (record e { down = rest })
  takes_order e order rest quiet no_hello good =
      let silent : is_unheard rest ≡ is_unheard (order ∷ rest) = sym (ap (λ b. b || is_unheard rest) no_hello) in
      record {
        placed = good.placed;
        grants = λ x g is. let it = good.grants x g is in record { own_ip = it.own_ip; told_ip = λ loud. it.told_ip (sym silent ∙ loud); trap_ip = it.trap_ip };
        situations = λ x at. situation_kept r r (record e { down = order ∷ rest }) (record e { down = rest }) x refl (knows_same r x) refl refl
            (sym (ap (λ os. os ++ orders_on x rest) (quiet x))) silent (good.situations x at);
        words = good.words;
        orders = good.orders.1;
        unheard = λ is. good.unheard (sym silent ∙ is);
        tellers = good.tellers;
        here = good.here;
      }

  -- one address is changed
  module _ (e : Edge) (good : IsGoodEdge own r e) (x : Pmac) (g : Grant) (f : Pmac → Option Grant) (more : List ToManager) (down : List ToSwitch) (here : e.at x ≡ true)
      (now : f x ≡ Some g) (others : (y : Pmac) → same_pmac y x ≡ false → f y ≡ e.granted y) where
    -- what was somebody's there is that host's still
    pub keeps_holders : StaysTo e.granted x g → KeepsHolders e.granted f
    keeps_holders stays y mac is = elim (is_or_other y x) [
      | inl it ↦
          let still = stays is.grant (ap e.granted (sym it) ∙ is.found) is.held in
          record { grant = g; found = ap f it ∙ now; held = still.0; to = still.1 ∙ is.to }
      | inr other ↦ record { grant = is.grant; found = others y other ∙ is.found; held = is.held; to = is.to }
    ]

    pub changed : is_unheard down ≡ is_unheard e.down → StaysTo e.granted x g → AllByRecursion (IsGoodWord own f) more →
        AllByRecursion (IsGoodOrder own e.granted) down →
        ((y : Pmac) → same_pmac y x ≡ false → words_on y more ≡ []) → ((y : Pmac) → same_pmac y x ≡ false → orders_on y down ≡ orders_on y e.down) →
        IsGoodGrant own r (is_unheard down) (e.up ++ more) x g → IsIn r.later (tenure_at r (record e { granted = f; up = e.up ++ more; down = down }) x) →
        IsGoodEdge own r (record e { granted = f; up = e.up ++ more; down = down })
    changed heard stays words orders silent kept new at_x = record {
      placed = λ y h is. elim (is_or_other y x) [
        | inl it ↦ ap e.at it ∙ here
        | inr other ↦ good.placed y h (sym (others y other) ∙ is)
      ];
      grants = λ y h is. elim (is_or_other y x) [
        | inl it ↦
            let grant : g ≡ h = same_Some g h (sym now ∙ ap f (sym it) ∙ is) in
            subst (λ (z : Pmac). IsGoodGrant own r (is_unheard down) (e.up ++ more) z h) (sym it) (subst (λ (k : Grant). IsGoodGrant own r (is_unheard down) (e.up ++ more) x k) grant new)
        | inr other ↦ grant_more (is_unheard e.down) (is_unheard down) e.up more y h heard (good.grants y h (sym (others y other) ∙ is))
      ];
      situations = λ y at. elim (is_or_other y x) [
        | inl it ↦ subst (λ (z : Pmac). IsIn r.later (tenure_at r (record e { granted = f; up = e.up ++ more; down = down }) z)) (sym it) at_x
        | inr other ↦
            situation_kept r r e (record e { granted = f; up = e.up ++ more; down = down }) y refl (knows_same r y) (others y other) (words_aside y e.up more (silent y other))
            (kept y other) heard (good.situations y at)
      ];
      words = all_append (IsGoodWord own f) e.up more (words_kept own e.granted f (keeps_holders stays) e.up good.words) words;
      orders = orders_kept own e.granted f (keeps_holders stays) down orders;
      unheard = λ is. good.unheard (sym heard ∙ is);
      tellers = good.tellers;
      here = λ y reg is at. let h = good.here y reg is at in record { too = h.too; granted_to = keeps_holders stays y reg.amac h.granted_to };
    }
