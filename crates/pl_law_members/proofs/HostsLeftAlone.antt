-- What switches and the manager do, and what comes before a turn, leaves hosts alone and sends no frame of theirs.
use Rattle.std.proofs.Common.{◌≡◌, ℕ, List, [], ◌∷◌, ◌++◌, reverse, set, refl, sym, ap, ◌∙◌, subst, append-nil}
use Rattle.std.specs.List.{AllByRecursion}
use Rattle.std.proofs.lemmas.List.{append_assoc, reverse-append}
use Rattle.pl_wiring.specs.declared.link.Link.{Link}
use Rattle.pl_journal.specs.declared.entry.Entry.{Entry}
use Rattle.pl_journal.specs.declared.entry.Entry.TheVariants.{Arrived, Copied, Crossed, Dropped, Freed, Granted, Line, LinkDown, LinkUp, Made, Moved, Placed, Redirected, Registered, Restarted, Sent, Settled, Skipped, Taken, Unsettled}
use Rattle.pl_journal.specs.Lossy.{has_joined}
use Rattle.pl_node.specs.declared.messages.ToManager.{ToManager}
use Rattle.pl_node.specs.ManagerDuties.{ManagerRule}
use Rattle.pl_node.specs.SwitchInputs.{SwitchInput, SwitchRule}
use Rattle.pl_world.specs.declared.spoken_frame.SpokenFrame.{SpokenFrame}
use Rattle.pl_world.specs.declared.attachment.AttachmentPoint.{AttachmentPoint}
use Rattle.pl_world.specs.LinksAndMoves.{host_moved, link_failed, link_repaired}
use Rattle.pl_world.specs.Restarting.{manager_restarted}
use Rattle.pl_world.specs.WorldRule.{ManagerTurn, SwitchTurn}
use Rattle.pl_world.specs.Worlds.{WorldView}
use Rattle.pl_world.proofs.Exports.{anew_left, empties_of, failed_left, manager_acts_left, moved_left, repaired_left, switch_acts_left, SwitchesWrite, Takes, Writes}

-- no host's frame
abbrev pub IsUnsent : Entry → Type 0
IsUnsent (Sent id h frame) = ⊥
IsUnsent entry = Unit {0}

abbrev pub AreUnsent : List Entry → Type 0
AreUnsent entries = AllByRecursion IsUnsent entries

pub unsent_append : (xs ys : List Entry) → AreUnsent xs → AreUnsent ys → AreUnsent (xs ++ ys)
unsent_append [] ys first next = next
unsent_append (x ∷ xs) ys first next = (first.0, unsent_append xs ys first.1 next)

-- the journal has more entries, none of them a host's frame
pub record Grows (before after : List Entry) : Type 0 where
  pub more : List Entry
  pub unsent : AreUnsent more
  pub is : after ≡ before ++ more

pub grows_not : (journal : List Entry) → Grows journal journal
grows_not journal = record { more = []; unsent = tt; is = sym (append-nil journal) }

pub grows_by : (journal more : List Entry) → AreUnsent more → Grows journal (journal ++ more)
grows_by journal more unsent = record { more = more; unsent = unsent; is = refl }

pub grows_twice : (a b c : List Entry) → Grows a b → Grows b c → Grows a c
grows_twice a b c first next = record {
  more = first.more ++ next.more;
  unsent = unsent_append first.more next.more first.unsent next.unsent;
  is = next.is ∙ ap (λ j. j ++ next.more) first.is ∙ append_assoc a first.more next.more;
}

-- so what hosts have joined stays
joined_by_one : (e : Entry) (past : List Entry) (h n : ℕ) → IsUnsent e → has_joined (e ∷ past) h n ≡ has_joined past h n
joined_by_one (Sent id g frame) past h n unsent = absurd unsent
joined_by_one (Line m) past h n unsent = refl
joined_by_one (Skipped g skip) past h n unsent = refl
joined_by_one (Made id s frame) past h n unsent = refl
joined_by_one (Crossed id s) past h n unsent = refl
joined_by_one (Redirected id old new) past h n unsent = refl
joined_by_one (Copied id new) past h n unsent = refl
joined_by_one (Arrived id g frame) past h n unsent = refl
joined_by_one (Taken id s) past h n unsent = refl
joined_by_one (Dropped id why) past h n unsent = refl
joined_by_one (Granted x g e p) past h n unsent = refl
joined_by_one (Registered x m) past h n unsent = refl
joined_by_one (Freed x) past h n unsent = refl
joined_by_one (Placed s place) past h n unsent = refl
joined_by_one (LinkDown x y) past h n unsent = refl
joined_by_one (LinkUp x y) past h n unsent = refl
joined_by_one (Moved g s port) past h n unsent = refl
joined_by_one (Restarted m) past h n unsent = refl
joined_by_one (Settled m) past h n unsent = refl
joined_by_one (Unsettled m) past h n unsent = refl

joined_by_all : (more journal : List Entry) (h n : ℕ) → AreUnsent more → has_joined (reverse (journal ++ more)) h n ≡ has_joined (reverse journal) h n
joined_by_all [] journal h n unsent = ap (λ j. has_joined (reverse j) h n) (append-nil journal)
joined_by_all (e ∷ more) journal h n unsent =
    ap (λ j. has_joined (reverse j) h n) (sym (append_assoc journal (e ∷ []) more)) ∙ joined_by_all more (journal ++ e ∷ []) h n unsent.1
    ∙ ap (λ p. has_joined p h n) (reverse-append journal (e ∷ [])) ∙ joined_by_one e (reverse journal) h n unsent.0

pub joined_kept : (before after : List Entry) (h n : ℕ) → Grows before after → has_joined (reverse after) h n ≡ has_joined (reverse before) h n
joined_kept before after h n grows = ap (λ j. has_joined (reverse j) h n) grows.is ∙ joined_by_all grows.more before h n grows.unsent

-- ---- what a world is made of
-- hosts are as they were, and no further frame of theirs was written
pub record Leaves (w new : WorldView) : Type 0 where
  pub grows : Grows w.journal new.journal
  pub hosts : new.hosts ≡ w.hosts

pub leaves_then : (a b c : WorldView) → Leaves a b → Leaves b c → Leaves a c
leaves_then a b c first next = record { grows = grows_twice a.journal b.journal c.journal first.grows next.grows; hosts = next.hosts ∙ first.hosts }

beside : (w new : WorldView) → new.journal ≡ w.journal → new.hosts ≡ w.hosts → Leaves w new
beside w new journal hosts = record { grows = subst (Grows w.journal) (sym journal) (grows_not w.journal); hosts = hosts }

pub leaves_writes : Writes Leaves IsUnsent
leaves_writes = record {
  same = λ w. beside w w refl refl;
  on = leaves_then;
  entry = λ w e unsent. record { grows = grows_by w.journal (e ∷ []) (unsent, tt); hosts = refl };
  dropped = λ id cause. tt;
}

leaves_acts : SwitchesWrite Leaves IsUnsent
leaves_acts = record {
  begun = λ w e unsent. record { grows = grows_by w.journal (e ∷ []) (unsent, tt); hosts = refl };
  crossed = λ id s. tt;
  copied = λ id copy. tt;
  made = λ id s frame. tt;
  granted = λ pmac h s port. tt;
  freed = λ pmac. tt;
  redirected = λ id old new. tt;
  taken = λ id s. tt;
}

pub leaves_takes : Takes Leaves
leaves_takes = record {
  from_hosts = λ w h items. beside w _ refl refl;
  out = λ w i items. beside w _ refl refl;
  to_manager = λ w s items. beside w _ refl refl;
  from_manager = λ w s items. beside w _ refl refl;
  heard = λ w heard. beside w _ refl refl;
}

-- ---- turns, moves and links
pub turn_leaves : (rule : SwitchRule) (w : WorldView) (s : ℕ) (input : SwitchInput) (speech : SpokenFrame) (new : WorldView) → SwitchTurn rule w s input speech new → Leaves w new
turn_leaves rule w s input speech new turn =
    leaves_then w (record w { switches = set w.switches s turn.after }) new (beside w _ refl refl)
    (switch_acts_left Leaves IsUnsent leaves_writes leaves_acts (λ u i item. beside u _ refl refl)
    (λ u t told. beside u _ refl refl) s rule w input speech new (λ place. tt) turn)

pub manager_leaves : (rule : ManagerRule) (w : WorldView) (s : ℕ) (told : ToManager) (new : WorldView) → ManagerTurn rule w s told new → Leaves w new
manager_leaves rule w s told new turn =
    leaves_then w (record w { manager = turn.after }) new (beside w _ refl refl)
    (manager_acts_left Leaves IsUnsent leaves_writes (λ pmac n. tt) (λ u t says. beside u _ refl refl) rule w s told new turn)

pub moved_leaves : (w : WorldView) (h : ℕ) (from to : AttachmentPoint) → Leaves w (host_moved w h from to)
moved_leaves w h from to = moved_left Leaves IsUnsent leaves_writes (empties_of Leaves leaves_takes) w h from to tt (λ u. beside u _ refl refl)

pub failed_leaves : (w : WorldView) (link : Link) → Leaves w (link_failed w link)
failed_leaves w link = failed_left Leaves IsUnsent leaves_writes (λ u i. leaves_takes.out u i []) w link tt (λ u links. beside u _ refl refl)

pub repaired_leaves : (w : WorldView) (link : Link) → Leaves w (link_repaired w link)
repaired_leaves w link = repaired_left Leaves IsUnsent leaves_writes w link tt (λ u links. beside u _ refl refl)

pub restarted_leaves : (w : WorldView) → Leaves w (manager_restarted w)
restarted_leaves w = anew_left Leaves IsUnsent leaves_writes w tt (λ u n. beside u _ refl refl)
