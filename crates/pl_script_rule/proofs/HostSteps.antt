-- What a step asks of a host, and what is seen of it.
use Rattle.std.proofs.Common.{◌≡◌, ℕ, Bool, true, false, if◌then◌else◌, List, [], ◌∷◌, ◌++◌, Option, Some, None, slice_get, refl, sym, ◌∙◌, ap, subst}
use Rattle.std.specs.List.{cons_option, filter}
use Rattle.std.proofs.lemmas.List.{append-nil, append_assoc}
use Rattle.std.proofs.lemmas.List.Elements.{filter-append, filter_map-append}
use Rattle.pl_wiring.specs.declared.link.Link.{Link}
use Rattle.pl_wiring.specs.Plan.{Plan}
use Rattle.pl_journal.specs.declared.entry.Entry.{Entry}
use Rattle.pl_node.specs.declared.messages.ToManager.{ToManager}
use Rattle.pl_node.specs.HostInputs.{HostInput, HostRule}
use Rattle.pl_node.specs.HostViews.{HostView}
use Rattle.pl_node.specs.ManagerDuties.{ManagerRule}
use Rattle.pl_node.specs.SwitchInputs.{SwitchInput, SwitchRule}
use Rattle.pl_world.specs.declared.item.Item.{Item}
use Rattle.pl_world.specs.declared.spoken_frame.SpokenFrame.{SpokenFrame}
use Rattle.pl_world.specs.declared.attachment.AttachmentPoint.{AttachmentPoint}
use Rattle.pl_world.specs.Changes.{noted}
use Rattle.pl_world.specs.LinksAndMoves.{host_moved, item_lost, link_failed, link_repaired}
use Rattle.pl_world.specs.Restarting.{manager_restarted}
use Rattle.pl_world.specs.WorldRule.{ComesAtSwitch, ManagerTurn, SwitchTurn, heard_item}
use Rattle.pl_world.specs.Worlds.{WorldView}
use Rattle.pl_world.proofs.Exports.{anew_left, at_switch_left, failed_left, heard_left, lost_left, manager_acts_left, moved_left, repaired_left, switch_acts_left, SwitchesWrite, Writes}
use Rattle.pl_script_rule.specs.Asked.{Behaviour, behaviour_by, behaviour_in, is_asked, seen, Lives}

pub either : {T : Type 0} (b : Bool) (x : T) → (if b then x else x) ≡ x
either true x = refl
either false x = refl

-- what a host did that an entry shows where the test passes
pub shown_if : (b : Bool) (deed : Behaviour) → cons_option (if b then Some deed else None) [] ≡ (if b then deed ∷ [] else [])
shown_if true deed = refl
shown_if false deed = refl

-- ---- how a host goes on
lives_on : (rule : HostRule) (a b c : HostView) (inputs more : List HostInput) (behaviour further : List Behaviour) → Lives rule a inputs behaviour b → Lives rule b more further c →
    Lives rule a (inputs ++ more) (behaviour ++ further) c
lives_on rule a b c [] more behaviour further first next =
    subst (λ (ds : List Behaviour). Lives rule a more (ds ++ further) c) (sym first.0) (subst (λ (v : HostView). Lives rule v more further c) first.1 next)
lives_on rule a b c (input ∷ inputs) more behaviour further first next = (
  first.0,
  first.1,
  first.2,
  first.3 ++ further,
  first.4,
  lives_on rule first.0 b c inputs more first.3 further first.5 next,
  ap (λ (ds : List Behaviour). ds ++ further) first.6 ∙ append_assoc (seen input first.2 first.1) first.3 further,
)

-- from a view on, with this asked of it, up to other hosts and a longer journal
pub record LivesTo (rule : HostRule) (n : ℕ) (view : HostView) (before : List Entry) (asks : List HostInput) (hosts : List HostView) (after : List Entry) : Type 0 where
  pub inputs : List HostInput
  pub behaviour : List Behaviour
  pub last : HostView
  pub lives : Lives rule view inputs behaviour last
  pub asked : filter is_asked inputs ≡ asks
  pub now : slice_get hosts n ≡ Some last
  pub shown : behaviour_in n after ≡ behaviour_in n before ++ behaviour

-- host number n does what is asked of it, and the wiring stays
pub record AsksOf (rule : HostRule) (n : ℕ) (plan : Plan) (hosts : List HostView) (journal : List Entry) (asks : List HostInput) (now : Plan) (then_ : List HostView)
    (after : List Entry) : Type 0 where
  pub same : now ≡ plan
  pub lives : (view : HostView) → slice_get hosts n ≡ Some view → LivesTo rule n view journal asks then_ after

abbrev pub Asks : HostRule → ℕ → WorldView → List HostInput → WorldView → Type 0
Asks rule n old asks new = AsksOf rule n old.plan old.hosts old.journal asks new.plan new.hosts new.journal

pub asks_nothing : (rule : HostRule) (n : ℕ) (w : WorldView) → Asks rule n w [] w
asks_nothing rule n w = record {
  same = refl;
  lives = λ view found. record {
    inputs = [];
    behaviour = [];
    last = view;
    lives = (refl, refl);
    asked = refl;
    now = found;
    shown = sym (append-nil (behaviour_in n w.journal));
  };
}

pub asks_more : (rule : HostRule) (n : ℕ) (a b c : WorldView) (asks more : List HostInput) → Asks rule n a asks b → Asks rule n b more c → Asks rule n a (asks ++ more) c
asks_more rule n a b c asks more first next = record {
  same = next.same ∙ first.same;
  lives = λ view found.
      let one = first.lives view found in
      let two = next.lives one.last one.now in
      record {
        inputs = one.inputs ++ two.inputs;
        behaviour = one.behaviour ++ two.behaviour;
        last = two.last;
        lives = lives_on rule view one.last two.last one.inputs two.inputs one.behaviour two.behaviour one.lives two.lives;
        asked = filter-append is_asked one.inputs two.inputs
            ∙ ap (λ (xs : List HostInput). xs ++ filter is_asked two.inputs) one.asked ∙ ap (λ (xs : List HostInput). asks ++ xs) two.asked;
        now = two.now;
        shown = two.shown ∙ ap (λ (ds : List Behaviour). ds ++ two.behaviour) one.shown ∙ append_assoc (behaviour_in n a.journal) one.behaviour two.behaviour;
      };
}

-- the wiring, the host and what the journal shows of it are these
pub record Shows (n : ℕ) (plan : Plan) (mine : Option HostView) (behaviour : List Behaviour) (now : Plan) (hosts : List HostView) (journal : List Entry) : Type 0 where
  pub same : now ≡ plan
  pub there : slice_get hosts n ≡ mine
  pub shown : behaviour_in n journal ≡ behaviour

module _ (n : ℕ) (plan : Plan) (mine : Option HostView) where
  abbrev Has : List Behaviour → WorldView → Type 0
  Has behaviour w = Shows n plan mine behaviour w.plan w.hosts w.journal

  abbrev Shown : List Behaviour → List Entry → Type 0
  Shown behaviour entries = behaviour_in n entries ≡ behaviour

  -- ---- what is written
  pub more_shown : (journal entries : List Entry) (behaviour more : List Behaviour) → Shown behaviour journal → Shown more entries → Shown (behaviour ++ more) (journal ++ entries)
  more_shown journal entries behaviour more before after =
      filter_map-append (behaviour_by n) journal entries ∙ ap (λ (ds : List Behaviour). ds ++ behaviour_in n entries) before ∙ ap (λ (ds : List Behaviour). behaviour ++ ds) after

  pub none_shown : (journal entries : List Entry) (behaviour : List Behaviour) → Shown behaviour journal → Shown [] entries → Shown behaviour (journal ++ entries)
  none_shown journal entries behaviour before after = more_shown journal entries behaviour [] before after ∙ append-nil behaviour

  pub notes : (w : WorldView) (e : Entry) (behaviour : List Behaviour) → Shown [] (e ∷ []) → Has behaviour w → Has behaviour (noted w e)
  notes w e behaviour none has = record { same = has.same; there = has.there; shown = none_shown w.journal (e ∷ []) behaviour has.shown none }

  -- ---- switches and the manager show nothing
  module _ (behaviour : List Behaviour) where
    abbrev pub KeepsShown : WorldView → WorldView → Type 0
    KeepsShown a b = Has behaviour a → Has behaviour b

    abbrev pub ShowsNone : Entry → Type 0
    ShowsNone e = Shown [] (e ∷ [])

    pub shown_writes : Writes KeepsShown ShowsNone
    shown_writes =
        record { same = λ w has. has; on = λ a b c one next has. next (one has); entry = λ w e none has. notes w e behaviour none has; dropped = λ id why. refl }

    shown_acts : SwitchesWrite KeepsShown ShowsNone
    shown_acts = record {
      begun = λ w e none has. notes w e behaviour none has;
      crossed = λ id s. refl;
      copied = λ id copy. refl;
      made = λ id s frame. refl;
      granted = λ pmac h s port. refl;
      freed = λ pmac. refl;
      redirected = λ id old new. refl;
      taken = λ id s. refl;
    }

    pub switch_shows : (rule : SwitchRule) (w : WorldView) (s : ℕ) (input : SwitchInput) (speech : SpokenFrame) (new : WorldView) →
        SwitchTurn rule w s input speech new → KeepsShown w new
    switch_shows rule w s input speech new turn has =
        switch_acts_left KeepsShown ShowsNone shown_writes shown_acts (λ u i item more. more) (λ u t told more. more) s rule w input speech new
        (λ place. refl) turn has

    pub manager_shows : (rule : ManagerRule) (w : WorldView) (s : ℕ) (told : ToManager) (new : WorldView) → ManagerTurn rule w s told new → KeepsShown w new
    manager_shows rule w s told new turn has =
        manager_acts_left KeepsShown ShowsNone shown_writes (λ pmac number. refl) (λ u t says more. more) rule w s told new turn has

    pub at_switch : (rule : SwitchRule) (w : WorldView) (s port : ℕ) (item : Item) (new : WorldView) → ComesAtSwitch rule w s port item new → KeepsShown w new
    at_switch rule w s port item new comes has =
        at_switch_left KeepsShown ShowsNone shown_writes rule (λ id t. refl) (switch_shows rule) w s port item new comes has

    pub heard : (w : WorldView) (h : ℕ) (item : Item) → KeepsShown w (heard_item w h item)
    heard w h item has = heard_left KeepsShown ShowsNone shown_writes (λ u who more. more) w h item has

    pub lost : (w : WorldView) (item : Item) → KeepsShown w (item_lost w item)
    lost w item has = lost_left KeepsShown ShowsNone shown_writes w item has

    pub failed : (w : WorldView) (link : Link) → KeepsShown w (link_failed w link)
    failed w link has = failed_left KeepsShown ShowsNone shown_writes (λ u i more. more) w link refl (λ u links more. more) has

    pub repaired : (w : WorldView) (link : Link) → KeepsShown w (link_repaired w link)
    repaired w link has = repaired_left KeepsShown ShowsNone shown_writes w link refl (λ u links more. more) has

    pub restarted : (w : WorldView) → KeepsShown w (manager_restarted w)
    restarted w has = anew_left KeepsShown ShowsNone shown_writes w refl (λ u n more. more) has

    pub moved : (w : WorldView) (h : ℕ) (from to : AttachmentPoint) → KeepsShown w (host_moved w h from to)
    moved w h from to has =
        moved_left KeepsShown ShowsNone shown_writes (record { from_hosts = λ u g more. more; out = λ u i more. more }) w h from to refl (λ u more. more) has
