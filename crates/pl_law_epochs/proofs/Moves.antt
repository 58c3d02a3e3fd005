-- What was somebody's stays so, and a trap that stands stood before.
use Rattle.std.proofs.Common.{◌≡◌, ◌⊎◌, false, Option, Some, None, refl, sym, ap, subst, ◌∙◌, inl, inr}
use Rattle.std.proofs.lemmas.Option.{none-some, same_Some}
use Rattle.pl_frame.specs.declared.address.Mac.{Mac}
use Rattle.pl_pmac.specs.declared.pmac.Pmac.{Pmac}
use Rattle.pl_layouts.specs.Equality.{same_pmac}
use Rattle.pl_node.specs.AddressUses.{standing_trap}
use Rattle.pl_node.specs.declared.messages.ToSwitch.{ToSwitch}
use Rattle.pl_node.specs.declared.messages.ToSwitch.TheVariants as say
use Rattle.pl_node.specs.declared.switch_records.Grant.{Grant}
use Rattle.pl_node.specs.declared.trap.Trap.{Trap}
use Rattle.pl_node.specs.SwitchViews.{SwitchView}
use Rattle.pl_switch_rule.specs.Granting.{granted}
use Rattle.pl_law_addresses.specs.EdgeAddresses.{IsHeldFor, KeepsHolders}
use Rattle.pl_law_addresses.proofs.Exports.{is_or_other, StaysTo}

pub record StoodSo (f : Pmac → Option Grant) (x : Pmac) (mac : Mac) (trap : Trap) : Type 0 where
  pub grant : Grant
  pub found : f x ≡ Some grant
  pub set : standing_trap grant.held ≡ Some trap
  pub to : grant.amac ≡ mac

pub record Moves (f g : Pmac → Option Grant) : Type 0 where
  pub holders : KeepsHolders f g
  pub stood : (x : Pmac) (h : Grant) (trap : Trap) → g x ≡ Some h → standing_trap h.held ≡ Some trap → StoodSo f x h.amac trap

pub moves_itself : (f : Pmac → Option Grant) → Moves f f
moves_itself f = record {
  holders = λ x mac is. is;
  stood = λ x h trap found set. record { grant = h; found = found; set = set; to = refl };
}

pub moves_then : (f g h : Pmac → Option Grant) → Moves f g → Moves g h → Moves f h
moves_then f g h a b = record {
  holders = λ x mac is. b.holders x mac (a.holders x mac is);
  stood = λ x q trap found set.
      let it = b.stood x q trap found set in
      let was = a.stood x it.grant trap it.found it.set in
      record { grant = was.grant; found = was.found; set = was.set; to = was.to ∙ it.to };
}

pub moves_same : (v w : SwitchView) → w.place ≡ v.place → w.grants ≡ v.grants → Moves (λ x. granted v x) (λ x. granted w x)
moves_same v w place grants =
    let path : ◌≡◌ {A = Pmac → Option Grant} (λ x. granted v x) (λ x. granted w x) = λ i x. granted (record v { place = sym place i; grants = sym grants i }) x in
    subst (λ (f : Pmac → Option Grant). Moves (λ x. granted v x) f) path (moves_itself (λ x. granted v x))

-- where one address is changed, which has no trap then
pub moves_one : (f g : Pmac → Option Grant) (x : Pmac) (new : Grant) → g x ≡ Some new → ((y : Pmac) → same_pmac y x ≡ false → g y ≡ f y) → StaysTo f x new → standing_trap new.held ≡ None →
    Moves f g
moves_one f g x new now others stays none = record {
  holders = λ y mac is. elim (is_or_other y x) [
    | inl it ↦
        let still = stays is.grant (ap f (sym it) ∙ is.found) is.held in
        record { grant = new; found = ap g it ∙ now; held = still.0; to = still.1 ∙ is.to }
    | inr other ↦ record { grant = is.grant; found = others y other ∙ is.found; held = is.held; to = is.to }
  ];
  stood = λ y h trap found set. elim (is_or_other y x) [
    | inl it ↦
        let same : new ≡ h = same_Some new h (sym now ∙ ap g (sym it) ∙ found) in
        absurd (none-some trap (sym none ∙ ap (λ (q : Grant). standing_trap q.held) same ∙ set))
    | inr other ↦ record { grant = h; found = sym (others y other) ∙ found; set = set; to = refl }
  ];
}

-- ---- by an order
pub record IsSetBy (says : ToSwitch) (f : Pmac → Option Grant) (x : Pmac) (mac : Mac) (trap : Trap) : Type 0 where
  pub is : says ≡ say.Invalidate x trap.new trap.number trap.ip
  pub held : IsHeldFor f x mac

pub record MovesBy (says : ToSwitch) (f g : Pmac → Option Grant) : Type 0 where
  pub holders : (x : Pmac) (mac : Mac) → IsHeldFor f x mac → IsHeldFor g x mac ⊎ (says ≡ say.Release x)
  pub stood : (x : Pmac) (h : Grant) (trap : Trap) → g x ≡ Some h → standing_trap h.held ≡ Some trap → StoodSo f x h.amac trap ⊎ IsSetBy says f x h.amac trap

pub moves_by : (says : ToSwitch) (f g : Pmac → Option Grant) → Moves f g → MovesBy says f g
moves_by says f g a = record { holders = λ x mac is. inl (a.holders x mac is); stood = λ x h trap found set. inl (a.stood x h trap found set) }

pub moves_by_then : (says : ToSwitch) (f g h : Pmac → Option Grant) → MovesBy says f g → Moves g h → MovesBy says f h
moves_by_then says f g h a b = record {
  holders = λ x mac is. elim (a.holders x mac is) [ inl still ↦ inl (b.holders x mac still) | inr gone ↦ inr gone ];
  stood = λ x q trap found set.
      let it = b.stood x q trap found set in
      elim (a.stood x it.grant trap it.found it.set) [
        | inl was ↦ inl (record { grant = was.grant; found = was.found; set = was.set; to = was.to ∙ it.to })
        | inr now ↦ inr (record { is = now.is; held = subst (IsHeldFor f x) it.to now.held })
      ];
}

-- where one address is changed by it
pub moves_but : (says : ToSwitch) (f g : Pmac → Option Grant) (x : Pmac) (new : Grant) → g x ≡ Some new → ((y : Pmac) → same_pmac y x ≡ false → g y ≡ f y) →
    ((mac : Mac) → IsHeldFor f x mac → IsHeldFor g x mac ⊎ (says ≡ say.Release x)) →
    ((trap : Trap) → standing_trap new.held ≡ Some trap → StoodSo f x new.amac trap ⊎ IsSetBy says f x new.amac trap) → MovesBy says f g
moves_but says f g x new now others holds stands = record {
  holders = λ y mac is. elim (is_or_other y x) [
    | inl it ↦ subst (λ z. IsHeldFor g z mac ⊎ (says ≡ say.Release z)) (sym it) (holds mac (subst (λ z. IsHeldFor f z mac) it is))
    | inr other ↦ inl (record { grant = is.grant; found = others y other ∙ is.found; held = is.held; to = is.to })
  ];
  stood = λ y h trap found set. elim (is_or_other y x) [
    | inl it ↦
        let same : new ≡ h = same_Some new h (sym now ∙ ap g (sym it) ∙ found) in
        subst (λ z. StoodSo f z h.amac trap ⊎ IsSetBy says f z h.amac trap) (sym it)
        (subst (λ m. StoodSo f x m trap ⊎ IsSetBy says f x m trap) (ap (λ (q : Grant). q.amac) same) (stands trap (ap (λ (q : Grant). standing_trap q.held) same ∙ set)))
    | inr other ↦ inl (record { grant = h; found = sym (others y other) ∙ found; set = set; to = refl })
  ];
}
