-- What a switch's acts do to the queues.
use Rattle.std.proofs.Common.{◌≡◌, ℕ, ◌+◌, ◌*◌, ◌<◌, ◌==◌, ◌⊎◌, Bool, true, false, if◌then◌else◌, List, [], ◌∷◌, ◌++◌, length, Option, Some, None, refl, sym, ap, ◌∙◌, subst, append_assoc, append-nil, inl, inr}
use Rattle.std.specs.List.{AllByRecursion}
use Rattle.std.proofs.Math.ListN.{length-set}
use Rattle.std.proofs.lemmas.Bool.{cases_eq, eq-eqb, ne_eqb, or_cases, or_left, or_right}
use Rattle.pl_layouts.specs.declared.control.Control.{Control}
use Rattle.pl_wiring.specs.Index.{port_index}
use Rattle.pl_wiring.specs.Labels.{switch_count}
use Rattle.pl_node.specs.declared.acts.Act.{Act}
use Rattle.pl_node.specs.declared.acts.Act.TheVariants as act
use Rattle.pl_node.specs.declared.messages.ToManager.{ToManager}
use Rattle.pl_node.specs.Accounting.{IsFit}
use Rattle.pl_journal.specs.declared.entry.Entry.{Entry}
use Rattle.pl_queues.specs.Queues.{items_at, put_at}
use Rattle.pl_world.specs.declared.item.Item.{Item}
use Rattle.pl_world.specs.declared.item.Item.TheVariants.{Control as ControlItem, Data}
use Rattle.pl_world.specs.declared.spoken_frame.SpokenFrame.{SpokenFrame}
use Rattle.pl_world.specs.declared.spoken_frame.SpokenFrame.TheVariants.{Over, Passed, Silent, Waiting}
use Rattle.pl_world.specs.Changes.{host_of, is_failed_at, sent_if_live}
use Rattle.pl_world.specs.SwitchActs.{DuringActs, act_done, acts_done, granted}
use Rattle.pl_world.specs.Worlds.{WorldView}
use Rattle.pl_law_control_plane.specs.ControlPlanes.{has_data, is_data_item, is_pass, message_in, messages_of, passes, queue_out, said, said_by, sends, sent_by, tells, told_by, unless}
use Rattle.pl_law_control_plane.proofs.PlaneQueues.{any_append, flat_map_append, put_at_elsewhere, put_at_here, put_here, said_append, set_elsewhere}

abbrev pub says_out : WorldView → ℕ → ℕ → List Control
says_out w s port = said (queue_out w.plan.k w.out s port)

abbrev pub carries_out : WorldView → ℕ → ℕ → Bool
carries_out w s port = has_data (queue_out w.plan.k w.out s port)

-- from one world to another the queues grew by these acts of switch s, and nothing else of the control plane changed
pub record Grows (w : WorldView) (s : ℕ) (acts : List Act) (new : WorldView) : Type 0 where
  pub plan : new.plan ≡ w.plan
  pub links : new.links ≡ w.links
  pub switches : new.switches ≡ w.switches
  pub manager : new.manager ≡ w.manager
  pub orders : new.from_manager ≡ w.from_manager
  pub many : length new.out ≡ length w.out
  pub many_told : length new.to_manager ≡ length w.to_manager
  pub says : (port : ℕ) → says_out new s port ≡ says_out w s port ++ unless (is_failed_at w s port) (sends port acts)
  pub other_says : (t port : ℕ) → (t ≡ s → ⊥) → says_out new t port ≡ says_out w t port
  pub carries : (port : ℕ) → carries_out new s port ≡ true → (carries_out w s port ≡ true) ⊎ (passes port acts ≡ true)
  pub other_carries : (t port : ℕ) → (t ≡ s → ⊥) → carries_out new t port ≡ carries_out w t port
  pub reports : items_at new.to_manager s ≡ items_at w.to_manager s ++ tells acts
  pub other_reports : (t : ℕ) → (t ≡ s → ⊥) → items_at new.to_manager t ≡ items_at w.to_manager t

unless_none : {T : Type 0} (b : Bool) → unless {T = T} b [] ≡ []
unless_none true = refl
unless_none false = refl

unless_more : {T : Type 0} (b : Bool) (before xs ys : List T) → (before ++ unless b xs) ++ unless b ys ≡ before ++ unless b (xs ++ ys)
unless_more true before xs ys = append-nil (before ++ [])
unless_more false before xs ys = append_assoc before xs ys

-- acts that send nothing and tell nothing, where no queue changed
quiet : (w : WorldView) (s : ℕ) (acts : List Act) (new : WorldView) → new.plan ≡ w.plan → new.links ≡ w.links → new.switches ≡ w.switches →
    new.manager ≡ w.manager → new.from_manager ≡ w.from_manager → new.out ≡ w.out → new.to_manager ≡ w.to_manager →
    ((port : ℕ) → sends port acts ≡ []) → tells acts ≡ [] → Grows w s acts new
quiet w s acts new plan links switches manager orders out told none silent = record {
  plan = plan;
  links = links;
  switches = switches;
  manager = manager;
  orders = orders;
  many = ap length out;
  many_told = ap length told;
  says = λ port. same s port ∙ sym (append-nil (says_out w s port))
      ∙ ap (λ xs. says_out w s port ++ xs) (sym (ap (unless (is_failed_at w s port)) (none port) ∙ unless_none {T = Control} (is_failed_at w s port)));
  other_says = λ t port differ. same t port;
  carries = λ port h. inl (sym (carried s port) ∙ h);
  other_carries = λ t port differ. carried t port;
  reports = ap (λ queues. items_at queues s) told ∙ sym (append-nil (items_at w.to_manager s)) ∙ ap (λ xs. items_at w.to_manager s ++ xs) (sym silent);
  other_reports = λ t differ. ap (λ queues. items_at queues t) told;
}
  where
    same : (t port : ℕ) → says_out new t port ≡ says_out w t port
    same t port = ap (λ k. said (queue_out k new.out t port)) (ap (λ plan. plan.k) plan) ∙ ap (λ out. said (queue_out w.plan.k out t port)) out

    carried : (t port : ℕ) → carries_out new t port ≡ carries_out w t port
    carried t port = ap (λ k. has_data (queue_out k new.out t port)) (ap (λ plan. plan.k) plan) ∙ ap (λ out. has_data (queue_out w.plan.k out t port)) out

pub nothing_grows : (w : WorldView) (s : ℕ) → Grows w s [] w
nothing_grows w s = quiet w s [] w refl refl refl refl refl refl refl (λ port. refl) refl

pub grows_more : (w mid new : WorldView) (s : ℕ) (xs ys : List Act) → Grows w s xs mid → Grows mid s ys new → Grows w s (xs ++ ys) new
grows_more w mid new s xs ys a b = record {
  plan = b.plan ∙ a.plan;
  links = b.links ∙ a.links;
  switches = b.switches ∙ a.switches;
  manager = b.manager ∙ a.manager;
  orders = b.orders ∙ a.orders;
  many = b.many ∙ a.many;
  many_told = b.many_told ∙ a.many_told;
  says = λ port.
      b.says port ∙ ap (λ x. says_out mid s port ++ unless x (sends port ys)) (failed port)
      ∙ ap (λ x. x ++ unless (is_failed_at w s port) (sends port ys)) (a.says port)
      ∙ unless_more (is_failed_at w s port) (says_out w s port) (sends port xs) (sends port ys)
      ∙ ap (λ x. says_out w s port ++ unless (is_failed_at w s port) x) (sym (flat_map_append (sent_by port) xs ys));
  other_says = λ t port differ. b.other_says t port differ ∙ a.other_says t port differ;
  carries = λ port h. elim (b.carries port h) [
    | inl before ↦ elim (a.carries port before) [
      | inl first ↦ inl first
      | inr passed ↦ inr (any_append (is_pass port) xs ys ∙ or_left (passes port xs) (passes port ys) passed)
    ]
    | inr passed ↦ inr (any_append (is_pass port) xs ys ∙ or_right (passes port xs) (passes port ys) passed)
  ];
  other_carries = λ t port differ. b.other_carries t port differ ∙ a.other_carries t port differ;
  reports = b.reports ∙ ap (λ x. x ++ tells ys) a.reports ∙ append_assoc (items_at w.to_manager s) (tells xs) (tells ys)
      ∙ ap (λ x. items_at w.to_manager s ++ x) (sym (flat_map_append told_by xs ys));
  other_reports = λ t differ. b.other_reports t differ ∙ a.other_reports t differ;
}
  where
    failed : (port : ℕ) → is_failed_at mid s port ≡ is_failed_at w s port
    failed port = rw (a.plan, a.links) refl

-- the queues out of ports once an item is put behind one of them, unless its link is failed
module _ (k count s p : ℕ) (out : List (List Item)) (there : s < count) (within : p < k) (many : length out ≡ count * k) where
  pub sent_elsewhere : (failed : Bool) (item : Item) (t q : ℕ) → ((s ≡ t) × (p ≡ q) → ⊥) →
      queue_out k (if failed then out else put_at out (port_index k s p) item) t q ≡ queue_out k out t q
  sent_elsewhere true item t q apart = refl
  sent_elsewhere false item t q apart = set_elsewhere k s p out within (items_at out (port_index k s p) ++ item ∷ []) t q apart

  pub sent_here : (failed : Bool) (item : Item) →
      queue_out k (if failed then out else put_at out (port_index k s p) item) s p ≡ queue_out k out s p ++ unless failed (item ∷ [])
  sent_here true item = sym (append-nil (queue_out k out s p))
  sent_here false item = put_here k count s p out there within many item

  pub sent_many : (failed : Bool) (item : Item) → length (if failed then out else put_at out (port_index k s p) item) ≡ length out
  sent_many true item = refl
  sent_many false item = length-set out (port_index k s p) (items_at out (port_index k s p) ++ item ∷ [])

said_unless : (failed : Bool) (item : Item) → said (unless failed (item ∷ [])) ≡ unless failed (said_by item)
said_unless true item = refl
said_unless false item = append-nil (said_by item)

data_unless : (failed : Bool) (item : Item) → is_data_item item ≡ false → has_data (unless failed (item ∷ [])) ≡ false
data_unless true item none = refl
data_unless false item none = rw none refl

-- an item is sent out of a port by an act
module _ (w new : WorldView) (s : ℕ) (a : Act) (p : ℕ) (item : Item) (there : s < switch_count w.plan.k) (within : p < w.plan.k)
    (many : length w.out ≡ switch_count w.plan.k * w.plan.k) where
  sends_out : new.plan ≡ w.plan → new.links ≡ w.links → new.switches ≡ w.switches → new.manager ≡ w.manager → new.from_manager ≡ w.from_manager →
      new.to_manager ≡ w.to_manager → new.out ≡ (if is_failed_at w s p then w.out else put_at w.out (port_index w.plan.k s p) item) →
      ((port : ℕ) → sends port (a ∷ []) ≡ (if p == port then said_by item else [])) →
      ((port : ℕ) → is_data_item item ≡ true → p ≡ port → passes port (a ∷ []) ≡ true) → tells (a ∷ []) ≡ [] →
      (is_data_item item ≡ true) ⊎ (is_data_item item ≡ false) → Grows w s (a ∷ []) new
  sends_out plan links switches manager orders told out sent passed silent kind = record {
    plan = plan;
    links = links;
    switches = switches;
    manager = manager;
    orders = orders;
    many = ap length out ∙ sent_many w.plan.k (switch_count w.plan.k) s p w.out there within many (is_failed_at w s p) item;
    many_told = ap length told;
    says = λ port. elim (cases_eq p port) [
      | inl same ↦ subst (λ x. says_out new s x ≡ says_out w s x ++ unless (is_failed_at w s x) (sends x (a ∷ []))) same here
      | inr differ ↦
          ap said (elsewhere s port (λ e. differ e.1)) ∙ sym (append-nil (says_out w s port))
          ∙ ap (λ x. says_out w s port ++ x) (sym (ap (unless (is_failed_at w s port)) (sent port ∙ rw (ne_eqb p port differ) refl) ∙ unless_none {T = Control} (is_failed_at w s port)))
    ];
    other_says = λ t port differ. ap said (elsewhere t port (λ e. differ (sym e.0)));
    carries = λ port h. elim (cases_eq p port) [
      | inl same ↦ elim kind [
        | inl data_frame ↦ inr (passed port data_frame same)
        | inr control_frame ↦ inl (subst (λ x. carries_out new s x ≡ true → carries_out w s x ≡ true) same (carried control_frame) h)
      ]
      | inr differ ↦ inl (sym (ap has_data (elsewhere s port (λ e. differ e.1))) ∙ h)
    ];
    other_carries = λ t port differ. ap has_data (elsewhere t port (λ e. differ (sym e.0)));
    reports = ap (λ queues. items_at queues s) told ∙ sym (append-nil (items_at w.to_manager s)) ∙ ap (λ xs. items_at w.to_manager s ++ xs) (sym silent);
    other_reports = λ t differ. ap (λ queues. items_at queues t) told;
  }
    where
      at_new : (t port : ℕ) → queue_out new.plan.k new.out t port ≡
          queue_out w.plan.k (if is_failed_at w s p then w.out else put_at w.out (port_index w.plan.k s p) item) t port
      at_new t port = ap (λ k. queue_out k new.out t port) (ap (λ x. x.k) plan) ∙ ap (λ x. queue_out w.plan.k x t port) out

      elsewhere : (t port : ℕ) → ((s ≡ t) × (p ≡ port) → ⊥) → queue_out new.plan.k new.out t port ≡ queue_out w.plan.k w.out t port
      elsewhere t port apart =
          at_new t port ∙ sent_elsewhere w.plan.k (switch_count w.plan.k) s p w.out there within many (is_failed_at w s p) item t port apart

      at_port : queue_out new.plan.k new.out s p ≡ queue_out w.plan.k w.out s p ++ unless (is_failed_at w s p) (item ∷ [])
      at_port = at_new s p ∙ sent_here w.plan.k (switch_count w.plan.k) s p w.out there within many (is_failed_at w s p) item

      here : says_out new s p ≡ says_out w s p ++ unless (is_failed_at w s p) (sends p (a ∷ []))
      here = ap said at_port ∙ said_append (queue_out w.plan.k w.out s p) (unless (is_failed_at w s p) (item ∷ []))
          ∙ ap (λ x. says_out w s p ++ x) (said_unless (is_failed_at w s p) item ∙ ap (unless (is_failed_at w s p)) (sym (sent p ∙ rw (eq-eqb p p refl) refl)))

      carried : is_data_item item ≡ false → carries_out new s p ≡ true → carries_out w s p ≡ true
      carried none h = elim (or_cases (carries_out w s p) (has_data (unless (is_failed_at w s p) (item ∷ [])))
          (sym (ap has_data at_port ∙ any_append is_data_item (queue_out w.plan.k w.out s p) (unless (is_failed_at w s p) (item ∷ []))) ∙ h)) [
            | inl before ↦ before
            | inr new_one ↦ absurd (let e = data_unless (is_failed_at w s p) item none in cc)
          ]

one_sent : (b : Bool) (xs : List Control) → (if b then xs else []) ++ [] ≡ (if b then xs else [])
one_sent true xs = append-nil xs
one_sent false xs = refl

-- each act
module _ (s : ℕ) (w : WorldView) (late : List Entry) (there : s < switch_count w.plan.k) (many : length w.out ≡ switch_count w.plan.k * w.plan.k)
    (many_told : length w.to_manager ≡ switch_count w.plan.k) where
  tell_grows : (speech : SpokenFrame) (told : ToManager) →
      Grows w s (act.Tell told ∷ []) (act_done s (record { world = w; speech = speech; late = late }) (act.Tell told)).world
  tell_grows speech told = record {
    plan = refl;
    links = refl;
    switches = refl;
    manager = refl;
    orders = refl;
    many = refl;
    many_told = length-set w.to_manager s (items_at w.to_manager s ++ told ∷ []);
    says = λ port. sym (append-nil (says_out w s port)) ∙ ap (λ x. says_out w s port ++ x) (sym (unless_none {T = Control} (is_failed_at w s port)));
    other_says = λ t port differ. refl;
    carries = λ port h. inl h;
    other_carries = λ t port differ. refl;
    reports = put_at_here w.to_manager s told (rw many_told there);
    other_reports = λ t differ. put_at_elsewhere w.to_manager s told t differ;
  }

  control_grows : (speech : SpokenFrame) (p : ℕ) (frame : List ℕ) → p < w.plan.k →
      Grows w s (act.Control p frame ∷ []) (sent_if_live w s p (ControlItem frame))
  control_grows speech p frame within =
      sends_out w (sent_if_live w s p (ControlItem frame)) s (act.Control p frame) p (ControlItem frame) there within many refl refl refl refl refl refl refl
      (λ port. one_sent (p == port) (messages_of (message_in frame))) (λ port kind same. absurd (cc)) refl (inr refl)

  data_grows : (new : WorldView) (p id : ℕ) (frame : List ℕ) → p < w.plan.k → new.plan ≡ w.plan → new.links ≡ w.links → new.switches ≡ w.switches →
      new.manager ≡ w.manager → new.from_manager ≡ w.from_manager → new.to_manager ≡ w.to_manager →
      new.out ≡ (if is_failed_at w s p then w.out else put_at w.out (port_index w.plan.k s p) (Data id frame)) →
      Grows w s (act.Pass p frame ∷ []) new
  data_grows new p id frame within plan links switches manager orders told out =
      sends_out w new s (act.Pass p frame) p (Data id frame) there within many plan links switches manager orders told out
      (λ port. if_same (p == port)) (λ port kind same. rw (eq-eqb p port same) refl) refl (inl refl)
    where
      if_same : (b : Bool) → ◌≡◌ {A = List Control} [] (if b then [] else [])
      if_same true = refl
      if_same false = refl

  pass_grows : (speech : SpokenFrame) (p : ℕ) (frame : List ℕ) → p < w.plan.k →
      Grows w s (act.Pass p frame ∷ []) (act_done s (record { world = w; speech = speech; late = late }) (act.Pass p frame)).world
  pass_grows Silent p frame within = quiet w s (act.Pass p frame ∷ []) w refl refl refl refl refl refl refl (λ port. refl) refl
  pass_grows (Waiting id again) p frame within =
      data_grows (act_done s (record { world = w; speech = Waiting id again; late = late }) (act.Pass p frame)).world p id frame within refl refl refl refl refl refl refl
  pass_grows (Passed id) p frame within =
      data_grows (act_done s (record { world = w; speech = Passed id; late = late }) (act.Pass p frame)).world p (w.begun + 1) frame within refl refl refl refl refl refl refl
  pass_grows Over p frame within = quiet w s (act.Pass p frame ∷ []) w refl refl refl refl refl refl refl (λ port. refl) refl

  grant_grows : (speech : SpokenFrame) (pmac : _) (amac : _) (host : Option ℕ) → Grows w s (act.Grant pmac amac ∷ []) (granted w s pmac host)
  grant_grows speech pmac amac None = quiet w s (act.Grant pmac amac ∷ []) w refl refl refl refl refl refl refl (λ port. refl) refl
  grant_grows speech pmac amac (Some h) = quiet w s (act.Grant pmac amac ∷ []) (granted w s pmac (Some h)) refl refl refl refl refl refl refl (λ port. refl) refl

  redirect_grows : (speech : SpokenFrame) (old new : _) →
      Grows w s (act.Redirect old new ∷ []) (act_done s (record { world = w; speech = speech; late = late }) (act.Redirect old new)).world
  redirect_grows Silent old new = quiet w s _ w refl refl refl refl refl refl refl (λ port. refl) refl
  redirect_grows (Waiting id again) old new = quiet w s _ _ refl refl refl refl refl refl refl (λ port. refl) refl
  redirect_grows (Passed id) old new = quiet w s _ w refl refl refl refl refl refl refl (λ port. refl) refl
  redirect_grows Over old new = quiet w s _ w refl refl refl refl refl refl refl (λ port. refl) refl

  take_grows : (speech : SpokenFrame) → Grows w s (act.Take ∷ []) (act_done s (record { world = w; speech = speech; late = late }) act.Take).world
  take_grows Silent = quiet w s _ w refl refl refl refl refl refl refl (λ port. refl) refl
  take_grows (Waiting id again) = quiet w s _ _ refl refl refl refl refl refl refl (λ port. refl) refl
  take_grows (Passed id) = quiet w s _ w refl refl refl refl refl refl refl (λ port. refl) refl
  take_grows Over = quiet w s _ w refl refl refl refl refl refl refl (λ port. refl) refl

  drop_grows : (speech : SpokenFrame) (cause : _) →
      Grows w s (act.Drop cause ∷ []) (act_done s (record { world = w; speech = speech; late = late }) (act.Drop cause)).world
  drop_grows Silent cause = quiet w s _ w refl refl refl refl refl refl refl (λ port. refl) refl
  drop_grows (Waiting id again) cause = quiet w s _ _ refl refl refl refl refl refl refl (λ port. refl) refl
  drop_grows (Passed id) cause = quiet w s _ w refl refl refl refl refl refl refl (λ port. refl) refl
  drop_grows Over cause = quiet w s _ w refl refl refl refl refl refl refl (λ port. refl) refl

  act_grows : (speech : SpokenFrame) (a : Act) → IsFit w.plan.k a →
      Grows w s (a ∷ []) (act_done s (record { world = w; speech = speech; late = late }) a).world
  act_grows speech (act.Control p frame) fit = control_grows speech p frame fit.within
  act_grows speech (act.Tell told) fit = tell_grows speech told
  act_grows speech (act.Grant pmac amac) fit = grant_grows speech pmac amac (host_of w.plan amac)
  act_grows speech (act.Free pmac) fit = quiet w s _ _ refl refl refl refl refl refl refl (λ port. refl) refl
  act_grows speech (act.Make frame) fit = quiet w s _ _ refl refl refl refl refl refl refl (λ port. refl) refl
  act_grows speech (act.Redirect old new) fit = redirect_grows speech old new
  act_grows speech (act.Pass p frame) fit = pass_grows speech p frame fit.within
  act_grows speech act.Take fit = take_grows speech
  act_grows speech (act.Drop cause) fit = drop_grows speech cause

pub acts_grow : (s : ℕ) (d : DuringActs) (acts : List Act) → AllByRecursion (IsFit d.world.plan.k) acts → s < switch_count d.world.plan.k →
    length d.world.out ≡ switch_count d.world.plan.k * d.world.plan.k → length d.world.to_manager ≡ switch_count d.world.plan.k →
    Grows d.world s acts (acts_done s d acts).world
acts_grow s d [] fit there many told = nothing_grows d.world s
acts_grow s d (a ∷ acts) fit there many told =
    let next : DuringActs = act_done s d a in
    let first = act_grows s d.world d.late there many told d.speech a fit.0 in
    let size : next.world.plan.k ≡ d.world.plan.k = ap (λ plan. plan.k) first.plan in
    grows_more d.world next.world (acts_done s next acts).world s (a ∷ []) acts first
    (acts_grow s next acts (rw size fit.1) (rw size there) (rw (size, first.many) many) (rw (size, first.many_told) told))
