-- A turn of the manager in the world is one in the control plane.
use Rattle.std.proofs.Common.{◌≡◌, ℕ, ◌<◌, if◌then◌else◌, List, [], ◌∷◌, ◌++◌, length, Option, Some, None, refl, sym, ap, ◌∙◌, subst, append_assoc, append-nil, ap₂, inl, inr, fold}
use Rattle.std.specs.List.{position}
use Rattle.std.proofs.Math.ListN.{length-set}
use Rattle.std.proofs.lemmas.Bool.{cases_eq, eq-eqb, ne_eqb}
use Rattle.pl_lemmas.proofs.Exports.{found_within}
use Rattle.pl_frame.specs.declared.address.SwitchId.{SwitchId}
use Rattle.pl_layouts.specs.Equality.{same_switch}
use Rattle.pl_node.specs.declared.acts.ManagerAct.{ManagerAct}
use Rattle.pl_node.specs.declared.acts.ManagerAct.TheVariants.{Number, Say}
use Rattle.pl_node.specs.declared.messages.ToManager.{ToManager}
use Rattle.pl_node.specs.declared.messages.ToSwitch.{ToSwitch}
use Rattle.pl_node.specs.ManagerDuties.{ManagerRule}
use Rattle.pl_node.specs.ManagerViews.{ManagerView}
use Rattle.pl_queues.specs.Queues.{items_at}
use Rattle.pl_world.specs.Changes.{said_to}
use Rattle.pl_world.specs.OtherActs.{manager_act_done, manager_stepped}
use Rattle.pl_world.specs.WorldRule.{ManagerTurn}
use Rattle.pl_world.specs.Worlds.{WorldView}
use Rattle.pl_law_control_plane.specs.ControlPlanes.{control_plane}
use Rattle.pl_law_control_plane.specs.PlaneSteps.{ManagerTurns, is_to, ordered, ordered_by}
use Rattle.pl_law_control_plane.proofs.PlaneQueues.{flat_map_append, put_at_elsewhere, put_at_here}

-- the queues of orders grew by these acts, and nothing else of the control plane changed
pub record Says (w : WorldView) (acts : List ManagerAct) (new : WorldView) : Type 0 where
  pub plan : new.plan ≡ w.plan
  pub switches : new.switches ≡ w.switches
  pub out : new.out ≡ w.out
  pub reports : new.to_manager ≡ w.to_manager
  pub manager : new.manager ≡ w.manager
  pub many : length new.from_manager ≡ length w.from_manager
  pub orders : (s : ℕ) → items_at new.from_manager s ≡ items_at w.from_manager s ++ ordered w.plan s acts

one_order : (w : WorldView) (says : ToSwitch) (to : Option ℕ) → ((t : ℕ) → to ≡ Some t → t < length w.from_manager) → (s : ℕ) →
    items_at (said_to w says to).from_manager s ≡ items_at w.from_manager s ++ (if is_to to s then says ∷ [] else [])
one_order w says None within s = sym (append-nil (items_at w.from_manager s))
one_order w says (Some t) within s = elim (cases_eq t s) [
  | inl same ↦ rw (eq-eqb t s same) (subst (λ x. items_at (said_to w says (Some t)).from_manager x ≡ items_at w.from_manager x ++ says ∷ []) same
      (put_at_here w.from_manager t says (within t refl)))
  | inr differ ↦ rw (ne_eqb t s differ) (put_at_elsewhere w.from_manager t says s (λ e. differ (sym e)) ∙ sym (append-nil (items_at w.from_manager s)))
]

said_many : (w : WorldView) (says : ToSwitch) (to : Option ℕ) → length (said_to w says to).from_manager ≡ length w.from_manager
said_many w says None = refl
said_many w says (Some t) = length-set w.from_manager t (items_at w.from_manager t ++ says ∷ [])

-- the rest of the world when a switch is told something
said_rest : (w : WorldView) (says : ToSwitch) (to : Option ℕ) → ((said_to w says to).plan ≡ w.plan) × ((said_to w says to).switches ≡ w.switches)
    × ((said_to w says to).out ≡ w.out) × ((said_to w says to).to_manager ≡ w.to_manager) × ((said_to w says to).manager ≡ w.manager)
said_rest w says None = (refl, refl, refl, refl, refl)
said_rest w says (Some t) = (refl, refl, refl, refl, refl)

one_says : (w : WorldView) (a : ManagerAct) → length w.from_manager ≡ length w.plan.ids → Says w (a ∷ []) (manager_act_done w a)
one_says w (Say to says) many =
    let at : Option ℕ = position (same_switch to) w.plan.ids in
    let rest = said_rest w says at in
    record {
      plan = rest.0;
      switches = rest.1;
      out = rest.2;
      reports = rest.3;
      manager = rest.4;
      many = said_many w says at;
      orders = λ s.
          one_order w says at (λ t e. rw many (found_within (same_switch to) w.plan.ids t e)) s
          ∙ ap (λ x. items_at w.from_manager s ++ x) (sym (append-nil (ordered_by w.plan s (Say to says))));
    }
one_says w (Number pmac n) many = record {
  plan = refl;
  switches = refl;
  out = refl;
  reports = refl;
  manager = refl;
  many = refl;
  orders = λ s. sym (append-nil (items_at w.from_manager s));
}

says_more : (w mid new : WorldView) (a : ManagerAct) (acts : List ManagerAct) → Says w (a ∷ []) mid → Says mid acts new → Says w (a ∷ acts) new
says_more w mid new a acts first next = record {
  plan = next.plan ∙ first.plan;
  switches = next.switches ∙ first.switches;
  out = next.out ∙ first.out;
  reports = next.reports ∙ first.reports;
  manager = next.manager ∙ first.manager;
  many = next.many ∙ first.many;
  orders = λ s.
      next.orders s ∙ ap (λ x. x ++ ordered mid.plan s acts) (first.orders s)
      ∙ ap (λ plan. (items_at w.from_manager s ++ ordered w.plan s (a ∷ [])) ++ ordered plan s acts) first.plan
      ∙ append_assoc (items_at w.from_manager s) (ordered w.plan s (a ∷ [])) (ordered w.plan s acts)
      ∙ ap (λ x. items_at w.from_manager s ++ x) (sym (flat_map_append (ordered_by w.plan s) (a ∷ []) acts));
}

all_says : (w : WorldView) (acts : List ManagerAct) → length w.from_manager ≡ length w.plan.ids → Says w acts (fold manager_act_done w acts)
all_says w [] many = record {
  plan = refl;
  switches = refl;
  out = refl;
  reports = refl;
  manager = refl;
  many = refl;
  orders = λ s. sym (append-nil (items_at w.from_manager s));
}
all_says w (a ∷ acts) many =
    let first = one_says w a many in
    says_more w (manager_act_done w a) (fold manager_act_done (manager_act_done w a) acts) a acts first
    (all_says (manager_act_done w a) acts (first.many ∙ many ∙ ap (λ plan. length plan.ids) (sym first.plan)))

-- the worlds before and after, with the manager's new view
turned : (w : WorldView) (after : ManagerView) (acts : List ManagerAct) (new : WorldView) (rule : ManagerRule) (id : SwitchId) (told : ToManager) →
    rule w.manager id told after acts → Says (record w { manager = after }) acts new → ManagerTurns rule (control_plane w) id told (control_plane new)
turned w after acts new rule id told ruled says = record {
  after = after;
  acts = acts;
  ruled = ruled;
  plan = says.plan;
  view = λ s. ap (λ switches. (control_plane (record w { switches = switches })).view s) says.switches;
  says = λ s port. ap₂ (λ plan out. (control_plane (record w { plan = plan; out = out })).says s port) says.plan says.out;
  carries = λ s port. ap₂ (λ plan out. (control_plane (record w { plan = plan; out = out })).carries s port) says.plan says.out;
  reports = λ s. ap (λ queues. items_at queues s) says.reports;
  orders = says.orders;
  manager = says.manager;
}

pub manager_turns : (rule : ManagerRule) (w : WorldView) (s : ℕ) (told : ToManager) (new : WorldView) → length w.from_manager ≡ length w.plan.ids →
    (turn : ManagerTurn rule w s told new) → ManagerTurns rule (control_plane w) turn.id told (control_plane new)
manager_turns rule w s told new many turn =
    subst (λ x. ManagerTurns rule (control_plane w) turn.id told (control_plane x)) (sym turn.changed)
    (turned w turn.after turn.acts (manager_stepped w turn.after turn.acts) rule turn.id told turn.ruled
    (all_says (record w { manager = turn.after }) turn.acts many))
