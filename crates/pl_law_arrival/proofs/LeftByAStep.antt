-- What a step leaves as it is: the wiring, the live links, where hosts stand, what waits in queues, and what was written.
use Rattle.std.proofs.Common.{◌≡◌, ◌⊎◌, ℕ, ◌+◌, ◌<◌, List, [], ◌∷◌, ◌++◌, length, set, Option, refl, sym, ap, ◌∙◌, subst, inl, inr}
use Rattle.std.specs.List.{AllByRecursion}
use Rattle.std.proofs.Math.ListN.{length-set}
use Rattle.std.proofs.lemmas.Bool.{cases_eq, cases_lt}
use Rattle.std.proofs.lemmas.List.{get_or-set_other, get_or-set_same, set_past}
use Rattle.pl_layouts.specs.declared.place.Place.{Place}
use Rattle.pl_journal.specs.declared.cause.Skip.{Skip}
use Rattle.pl_journal.specs.declared.entry.Entry.{Entry}
use Rattle.pl_node.specs.declared.acts.Act.{Act}
use Rattle.pl_node.specs.declared.messages.ToManager.{ToManager}
use Rattle.pl_node.specs.HostInputs.{HostAnswer, HostInput, HostRule}
use Rattle.pl_node.specs.ManagerDuties.{ManagerRule}
use Rattle.pl_node.specs.SwitchInputs.{SwitchInput, SwitchRule}
use Rattle.pl_node.specs.SwitchViews.{SwitchView}
use Rattle.pl_node.proofs.Exports.{among_left, among_right, IsAmong}
use Rattle.pl_queues.specs.Queues.{items_at, put_at}
use Rattle.pl_world.specs.declared.item.Item.{Item}
use Rattle.pl_world.specs.declared.item.Item.TheVariants.{Data}
use Rattle.pl_world.specs.declared.spoken_frame.SpokenFrame.{SpokenFrame as Speech}
use Rattle.pl_world.specs.Changes.{all_noted, begun_by}
use Rattle.pl_world.specs.OtherActs.{skip_noted}
use Rattle.pl_world.specs.LinksAndMoves.{item_lost}
use Rattle.pl_world.specs.SwitchActs.{DuringActs, acts_done, place_noted, with_late}
use Rattle.pl_world.specs.Restarting.{manager_restarted}
use Rattle.pl_world.specs.WorldRule.{ComesAtSwitch, HostReceives, HostTurn, ManagerTurn, SwitchTurn, heard_item}
use Rattle.pl_world.specs.Worlds.{WorldView}
use Rattle.pl_world.proofs.Exports.{acts_left, anew_left, Any, any_of_switches, at_switch_left, heard_left, host_left, lost_left, manager_left, receives_left, skip_left, switch_left, Turns, Writes}

pub record Goes (old new : WorldView) : Type 0 where
  pub plan : new.plan ≡ old.plan
  pub links : new.links ≡ old.links
  pub attachments : new.attachments ≡ old.attachments
  pub many : length new.out ≡ length old.out
  pub out : (i : ℕ) (x : Item) → IsAmong x (items_at old.out i) → IsAmong x (items_at new.out i)
  pub from_hosts : (i : ℕ) (x : Item) → IsAmong x (items_at old.from_hosts i) → IsAmong x (items_at new.from_hosts i)
  pub journal : (e : Entry) → IsAmong e old.journal → IsAmong e new.journal

-- ---- queues
pub put_keeps : (queues : List (List Item)) (n i : ℕ) (x y : Item) → IsAmong x (items_at queues i) → IsAmong x (items_at (put_at queues n y) i)
put_keeps queues n i x y h = elim (cases_eq i n) [
  | inr other ↦ subst (IsAmong x) (sym (get_or-set_other queues n i (items_at queues n ++ y ∷ []) [] other)) h
  | inl same ↦ elim (cases_lt n (length queues)) [
    | inl within ↦
        subst (λ j. IsAmong x (items_at (put_at queues n y) j)) (sym same)
        (subst (IsAmong x) (sym (get_or-set_same queues n (items_at queues n ++ y ∷ []) [] within))
        (among_left x (items_at queues n) (y ∷ []) (subst (λ j. IsAmong x (items_at queues j)) same h)))
    | inr past ↦ subst (λ qs. IsAmong x (items_at qs i)) (sym (set_past queues n (items_at queues n ++ y ∷ []) past)) h
  ]
]

pub put_there : (queues : List (List Item)) (n : ℕ) (y : Item) → n < length queues → IsAmong y (items_at (put_at queues n y) n)
put_there queues n y within =
    subst (IsAmong y) (sym (get_or-set_same queues n (items_at queues n ++ y ∷ []) [] within)) (among_right y (items_at queues n) (y ∷ []) (inl refl))

-- what is left of a queue, and of the others, once its first item is taken
pub left_over : (queues : List (List Item)) (n i : ℕ) (x y : Item) (items : List Item) → items_at queues n ≡ y ∷ items → IsAmong x (items_at queues i) →
    ((i ≡ n) × (y ≡ x)) ⊎ IsAmong x (items_at (set queues n items) i)
left_over queues n i x y items head h = elim (cases_eq i n) [
  | inr other ↦ inr (subst (IsAmong x) (sym (get_or-set_other queues n i items [] other)) h)
  | inl same ↦ elim (subst (IsAmong x) head (subst (λ j. IsAmong x (items_at queues j)) same h)) [
    | inl is ↦ inl (same, is)
    | inr rest ↦ elim (cases_lt n (length queues)) [
      | inl within ↦ inr (subst (λ j. IsAmong x (items_at (set queues n items) j)) (sym same) (subst (IsAmong x) (sym (get_or-set_same queues n items [] within)) rest))
      | inr past ↦ inr (subst (λ qs. IsAmong x (items_at qs i)) (sym (set_past queues n items past)) h)
    ]
  ]
]

-- ---- small changes
pub goes_self : (w : WorldView) → Goes w w
goes_self w = record { plan = refl; links = refl; attachments = refl; many = refl; out = λ i x h. h; from_hosts = λ i x h. h; journal = λ e h. h }

pub goes_then : (a b c : WorldView) → Goes a b → Goes b c → Goes a c
goes_then a b c f g = record {
  plan = g.plan ∙ f.plan;
  links = g.links ∙ f.links;
  attachments = g.attachments ∙ f.attachments;
  many = g.many ∙ f.many;
  out = λ i x h. g.out i x (f.out i x h);
  from_hosts = λ i x h. g.from_hosts i x (f.from_hosts i x h);
  journal = λ e h. g.journal e (f.journal e h);
}

pub goes_noted : (w : WorldView) (entries : List Entry) → Goes w (all_noted w entries)
goes_noted w entries =
    record { plan = refl; links = refl; attachments = refl; many = refl; out = λ i x h. h; from_hosts = λ i x h. h; journal = λ e h. among_left e w.journal entries h }

-- what changes no more than views, reports, orders or who was heard
pub goes_beside : (w new : WorldView) → new.plan ≡ w.plan → new.links ≡ w.links → new.attachments ≡ w.attachments → new.out ≡ w.out → new.from_hosts ≡ w.from_hosts →
    new.journal ≡ w.journal → Goes w new
goes_beside w new plan links attachments out from_hosts journal = record {
  plan = plan;
  links = links;
  attachments = attachments;
  many = ap (λ (xs : List (List Item)). length xs) out;
  out = λ i x h. subst (λ (xs : List (List Item)). IsAmong x (items_at xs i)) (sym out) h;
  from_hosts = λ i x h. subst (λ (xs : List (List Item)). IsAmong x (items_at xs i)) (sym from_hosts) h;
  journal = λ e h. subst (IsAmong e) (sym journal) h;
}

pub goes_writes : Writes Goes Any
goes_writes = record { same = goes_self; on = goes_then; entry = λ w e may. goes_noted w (e ∷ []); dropped = λ id cause. tt }

goes_begun : (w : WorldView) (e : Entry) → Goes w (begun_by w e)
goes_begun w e =
    record {
      plan = refl;
      links = refl;
      attachments = refl;
      many = refl;
      out = λ i x h. h;
      from_hosts = λ i x h. h;
      journal = λ y h. among_left y w.journal
          (e ∷ []) h;
    }

goes_turns : Turns Goes Any
goes_turns = record {
  switches_write = any_of_switches Goes goes_begun;
  placed = λ s place. tt;
  registered = λ pmac n. tt;
  out = λ w i item. record {
    plan = refl;
    links = refl;
    attachments = refl;
    many = length-set w.out i (items_at w.out i ++ item ∷ []);
    out = λ j x h. put_keeps w.out i j x item h;
    from_hosts = λ j x h. h;
    journal = λ e h. h;
  };
  reports = λ w s told. goes_beside w _ refl refl refl refl refl refl;
  sends = λ w h frame. record {
    plan = refl;
    links = refl;
    attachments = refl;
    many = refl;
    out = λ i x j. j;
    from_hosts = λ i x j. put_keeps w.from_hosts h i x (Data (w.begun + 1) frame) j;
    journal = λ e j. among_left e w.journal (_ ∷ []) j;
  };
  orders = λ w s says. goes_beside w _ refl refl refl refl refl refl;
  switches = λ w s view. goes_beside w _ refl refl refl refl refl refl;
  hosts = λ w h view. goes_beside w _ refl refl refl refl refl refl;
  manager = λ w view. goes_beside w _ refl refl refl refl refl refl;
}

-- ---- turns
all_any : (entries : List Entry) → AllByRecursion Any entries
all_any [] = tt
all_any (e ∷ entries) = (tt, all_any entries)

pub goes_acts : (s : ℕ) (d : DuringActs) (acts : List Act) → Goes d.world (acts_done s d acts).world
goes_acts s d acts = (acts_left Goes Any goes_writes goes_turns.switches_write goes_turns.out goes_turns.reports s d acts (all_any d.late)).left

-- behind the acts come the ends that were put off, and the place
pub goes_behind : (s : ℕ) (old new : Place) (d : DuringActs) → Goes d.world (place_noted s old new (with_late d))
goes_behind s old new d = goes_then d.world (with_late d) _ (goes_noted d.world d.late) (goes_noted (with_late d) _)

pub goes_views : (w : WorldView) (switches : List SwitchView) → Goes w (record w { switches = switches })
goes_views w switches = goes_beside w _ refl refl refl refl refl refl

pub goes_switch : (rule : SwitchRule) (w : WorldView) (s : ℕ) (input : SwitchInput) (speech : Speech) (new : WorldView) → SwitchTurn rule w s input speech new → Goes w new
goes_switch rule w s input speech new turn = switch_left Goes Any goes_writes goes_turns rule w s input speech new turn

pub goes_host : (rule : HostRule) (w : WorldView) (h : ℕ) (input : HostInput) (answer : HostAnswer) (new : WorldView) → HostTurn rule w h input answer new → Goes w new
goes_host rule w h input answer new turn = host_left Goes Any goes_writes goes_turns rule w h input answer new turn

pub goes_manager : (rule : ManagerRule) (w : WorldView) (s : ℕ) (told : ToManager) (new : WorldView) → ManagerTurn rule w s told new → Goes w new
goes_manager rule w s told new turn = manager_left Goes Any goes_writes goes_turns rule w s told new turn

-- ---- turns with what comes just before them
pub goes_skip : (w : WorldView) (h : ℕ) (skip : Option Skip) → Goes w (skip_noted w h skip)
goes_skip w h skip = skip_left Goes Any goes_writes (λ n why. tt) w h skip

pub goes_receives : (rule : HostRule) (w : WorldView) (h id : ℕ) (frame : List ℕ) (new : WorldView) → HostReceives rule w h id frame new → Goes w new
goes_receives rule w h id frame new receives = receives_left Goes Any goes_writes rule (goes_host rule) (λ n g f. tt) w h id frame new receives

pub goes_at_switch : (rule : SwitchRule) (w : WorldView) (s port : ℕ) (item : Item) (new : WorldView) → ComesAtSwitch rule w s port item new → Goes w new
goes_at_switch rule w s port item new comes = at_switch_left Goes Any goes_writes rule (λ id t. tt) (goes_switch rule) w s port item new comes

pub goes_heard : (w : WorldView) (h : ℕ) (item : Item) → Goes w (heard_item w h item)
goes_heard w h item = heard_left Goes Any goes_writes (λ u heard. goes_beside u _ refl refl refl refl refl refl) w h item

pub goes_lost : (w : WorldView) (item : Item) → Goes w (item_lost w item)
goes_lost w item = lost_left Goes Any goes_writes w item

-- and where the manager begins anew
pub goes_anew : (w : WorldView) → Goes w (manager_restarted w)
goes_anew w = anew_left Goes Any goes_writes w tt (λ u n. goes_beside u _ refl refl refl refl refl refl)
