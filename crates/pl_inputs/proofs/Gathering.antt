-- What was read of a shelf that holds the same is what was read of the shelf at first.
use Rattle.std.proofs.Common.{◌≡◌, ℕ, suc, ◌+◌, ◌-◌, ◌≤◌, List, [], ◌∷◌, ◌++◌, length, take, slice_get, Option, Some, None, refl, sym, ap, ◌∙◌, subst, inl, inr, zero-add, arith}
use Rattle.std.proofs.lemmas.List.{take_more}
use Rattle.std.proofs.lemmas.List.Sums.{sum_by-append}
use Rattle.std.proofs.lemmas.Option.{get_or_from_slice_get, slice_get_within}
use Rattle.pl_shelf.specs.Held.{Held, IsLonger, HoldsExactly, Same}
use Rattle.pl_wiring.specs.declared.host.Host.{Host}
use Rattle.pl_wiring.specs.Plan.{Plan}
use Rattle.pl_script.specs.declared.script.ScriptLine.{ScriptLine}
use Rattle.pl_inputs.specs.declared.fault.CaptureFault.{CaptureFault}
use Rattle.pl_inputs.specs.declared.fault.CaptureFault.TheVariants.{OfRecords, OfSections}
use Rattle.pl_inputs.specs.declared.status.Status.{Status}
use Rattle.pl_inputs.specs.declared.status.Status.TheVariants as status
use Rattle.pl_inputs.specs.Gathered.{IsRefusedFile, IsUngathered, IsUntaken}
use Rattle.pl_inputs.specs.Folders.{in_folder}
use Rattle.pl_inputs.specs.Inputs.{AreCaptures, HasLines, HasPlan, IsCaptureFile, IsCaptureAt, IsLoaded, all_bytes, captures_limit, text_limit}
use Rattle.pl_inputs.specs.declared.words.Network.{Network}
use Rattle.pl_inputs.specs.Loads.{IsUnplanned, IsUnscripted}
use Rattle.pl_inputs.specs.Unread.{AreTextsRead, ComesTo, IsNextCapture, IsRefusedCapture, IsTooMuch, IsUnread}
use Rattle.pl_inputs.specs.Words.{Asked}

same_whole : {old new : List ℕ → Held} → Same old new → (name file : List ℕ) → HoldsExactly (new name) file → HoldsExactly (old name) file
same_whole same name file whole = subst (λ h. HoldsExactly h file) (same name) whole

same_longer : {old new : List ℕ → Held} → Same old new → (name : List ℕ) (limit : ℕ) → IsLonger (new name) limit → IsLonger (old name) limit
same_longer same name limit longer = subst (λ h. IsLonger h limit) (same name) longer

pub same_loaded : {old new : List ℕ → Held} → Same old new → (name : List ℕ) (limit : ℕ) (file : List ℕ) → IsLoaded new name limit file → IsLoaded old name limit file
same_loaded same name limit file loaded = record { whole = same_whole same name file loaded.whole; within = loaded.within }

same_capture : {old new : List ℕ → Held} → Same old new → (folder : List ℕ) (capture : Option (List ℕ)) (file : List ℕ) → IsCaptureAt new folder capture file → IsCaptureAt old folder capture file
same_capture same folder None file is = is
same_capture same folder (Some name) file is = same_whole same (in_folder folder name) file is

pub same_captures : {old new : List ℕ → Held} → Same old new → (folder : List ℕ) (hosts : List Host) (files : List (List ℕ)) → AreCaptures new folder hosts files → AreCaptures old folder hosts files
same_captures same folder [] [] are = tt
same_captures same folder [] (file ∷ files) are = are
same_captures same folder (h ∷ hosts) [] are = are
same_captures same folder (h ∷ hosts) (file ∷ files) are =
    (same_capture same folder h.capture file are.0, are.1, same_captures same folder hosts files are.2)

same_lines : {old new : List ℕ → Held} → Same old new → (network : Network) (name : List ℕ) (plan : Plan) (lines : List ScriptLine) → HasLines new network name plan lines →
    HasLines old network name plan lines
same_lines same network name plan lines has = (has.0, same_loaded same name text_limit has.0 has.1, has.2)

abbrev same_comes : {old new : List ℕ → Held} → Same old new → (folder : List ℕ) (hosts : List Host) (n : ℕ) (host : Host) → ComesTo new folder hosts n host → ComesTo old folder hosts n host
same_comes same folder hosts n host comes = record {
  stands = comes.stands;
  files = comes.files;
  earlier = same_captures same folder (take n hosts) comes.files comes.earlier;
  limit = comes.limit;
}

same_next : {old new : List ℕ → Held} → Same old new → (folder : List ℕ) (hosts : List Host) (name : List ℕ) → IsNextCapture new folder hosts name → IsNextCapture old folder hosts name
same_next same folder hosts name next = record {
  n = next.n;
  host = next.host;
  comes = same_comes same folder hosts next.n next.host next.comes;
  file = next.file;
  names = next.names;
  is = next.is;
}

same_too_much : {old new : List ℕ → Held} → Same old new → (folder : List ℕ) (hosts : List Host) (name : List ℕ) → IsTooMuch new folder hosts name → IsTooMuch old folder hosts name
same_too_much same folder hosts name much = record {
  n = much.n;
  host = much.host;
  comes = same_comes same folder hosts much.n much.host much.comes;
  file = much.file;
  names = much.names;
  is = much.is;
  longer = same_longer same name (captures_limit - all_bytes much.comes.files) much.longer;
}

same_refused : {old new : List ℕ → Held} → Same old new → (folder : List ℕ) (hosts : List Host) (n : ℕ) (e : _) → IsRefusedCapture new folder hosts n e → IsRefusedCapture old folder hosts n e
same_refused same folder hosts n e r = record {
  host = r.host;
  comes = same_comes same folder hosts n r.host r.comes;
  file = r.file;
  is = same_capture same folder r.host.capture r.file r.is;
  limit = r.limit;
  refused = r.refused;
}

-- a topology that was not read, or is refused
pub unplanned : (held : List ℕ → Held) (asked : Asked) (e : Status) → IsUnplanned held asked.topology e → IsUnread held asked e
unplanned held asked (status.ReadFault name) u = inl u
unplanned held asked (status.TooLong name) u = inl (u.0, subst (λ n. IsLonger (held n) text_limit) (sym u.0) u.1)
unplanned held asked (status.BadTopology reason) u = u
unplanned held asked status.OutOfMemory u = tt
unplanned held asked _ u = absurd u

-- a script that was not read, or is refused
pub unscripted : (old new : List ℕ → Held) → Same old new → (asked : Asked) (plan : Plan) → HasPlan old asked.topology plan → (e : Status) →
    IsUnscripted new asked.network asked.script plan e → IsUnread old asked e
unscripted old new same asked plan has (status.ReadFault name) u = inr (inl (plan, has, u))
unscripted old new same asked plan has (status.TooLong name) u =
    inr (inl (plan, has, u.0, same_longer same name text_limit (subst (λ n. IsLonger (new n) text_limit) (sym u.0) u.1)))
unscripted old new same asked plan has (status.BadScript n reason) u = (plan, has, (u.0, same_loaded same asked.script text_limit u.0 u.1, u.2))
unscripted old new same asked plan has status.OutOfMemory u = tt
unscripted old new same asked plan has _ u = absurd u

texts_read : {old new : List ℕ → Held} → Same old new → (asked : Asked) (plan : Plan) (lines : List ScriptLine) → HasPlan old asked.topology plan →
    HasLines new asked.network asked.script plan lines → AreTextsRead old asked plan
texts_read same asked plan lines has written =
    record { lines = lines; topology = has; script = same_lines same asked.network asked.script plan lines written }

-- captures that were not all read; the second shelf is that of the script, the third that of the captures
pub ungathered : (old mid new : List ℕ → Held) → Same old mid → Same old new → (asked : Asked) (plan : Plan) (lines : List ScriptLine) →
    HasPlan old asked.topology plan → HasLines mid asked.network asked.script plan lines → (e : Status) → IsUngathered new asked.captures plan.hosts e → IsUnread old asked e
ungathered old mid new first same asked plan lines has written (status.ReadFault name) u =
    inr (inr (plan, texts_read first asked plan lines has written, same_next same asked.captures plan.hosts name u))
ungathered old mid new first same asked plan lines has written (status.TooLong name) u =
    inr (inr (plan, texts_read first asked plan lines has written, same_too_much same asked.captures plan.hosts name u))
ungathered old mid new first same asked plan lines has written (status.BadCapture host e at) u =
    (plan, texts_read first asked plan lines has written, same_refused same asked.captures plan.hosts host.0 (OfRecords e) u.0, u.1)
ungathered old mid new first same asked plan lines has written (status.BadSection host e) u =
    (plan, texts_read first asked plan lines has written, same_refused same asked.captures plan.hosts host.0 (OfSections e) u)
ungathered old mid new first same asked plan lines has written status.OutOfMemory u = tt
ungathered old mid new first same asked plan lines has written _ u = absurd u

-- one host more
one_capture_more : (held : List ℕ → Held) (folder : List ℕ) (hosts : List Host) (files : List (List ℕ)) (h : Host) (file : List ℕ) →
    AreCaptures held folder hosts files → IsCaptureAt held folder h.capture file → IsCaptureFile file → AreCaptures held folder (hosts ++ h ∷ []) (files ++ file ∷ [])
one_capture_more held folder [] [] h file are is read = (is, read, tt)
one_capture_more held folder [] (f ∷ files) h file are is read = absurd are
one_capture_more held folder (g ∷ hosts) [] h file are is read = absurd are
one_capture_more held folder (g ∷ hosts) (f ∷ files) h file are is read = (are.0, are.1, one_capture_more held folder hosts files h file are.2 is read)

more_bytes : (files : List (List ℕ)) (file : List ℕ) → all_bytes (files ++ file ∷ []) ≡ all_bytes files + length file
more_bytes files file = sum_by-append length files (file ∷ []) ∙ ap (λ n. all_bytes files + n) (zero-add (length file))

front_of : (hosts : List Host) (n : ℕ) (host : Host) → slice_get hosts n ≡ Some host → take (n + 1) hosts ≡ take n hosts ++ host ∷ []
front_of hosts n host stands =
    take_more hosts n host (slice_get_within hosts n host stands)
    ∙ ap (λ h. take n hosts ++ h ∷ []) (get_or_from_slice_get hosts n host host stands)

-- how far the captures have come
pub record Gathers (old new : List ℕ → Held) (folder : List ℕ) (hosts : List Host) (n : ℕ) (files : List (List ℕ)) (left : ℕ) : Type 0 where
  pub read : AreCaptures old folder (take n hosts) files
  pub limit : all_bytes files + left ≡ captures_limit
  pub same : Same old new

abbrev comes_to : (old new : List ℕ → Held) (folder : List ℕ) (hosts : List Host) (n : ℕ) (files : List (List ℕ)) (left : ℕ) (host : Host) →
    Gathers old new folder hosts n files left → slice_get hosts n ≡ Some host → ComesTo old folder hosts n host
comes_to old new folder hosts n files left host g stands =
    record { stands = stands; files = files; earlier = g.read; limit = let limit = g.limit in omega arith }

left_is : (files : List (List ℕ)) (left : ℕ) → all_bytes files + left ≡ captures_limit → left ≡ captures_limit - all_bytes files
left_is files left limit = omega arith

refused_at : (old new : List ℕ → Held) (folder : List ℕ) (hosts : List Host) (n : ℕ) (files : List (List ℕ)) (left : ℕ) (host : Host) →
    Gathers old new folder hosts n files left → slice_get hosts n ≡ Some host → (file : List ℕ) → host.capture ≡ Some file → (number : ℕ) (e : CaptureFault) →
    number ≡ n → IsRefusedFile new folder file left e → IsRefusedCapture old folder hosts number e
refused_at old new folder hosts n files left host g stands file is number e at refused =
    subst (λ m. IsRefusedCapture old folder hosts m e) (sym at) (record {
      host = host;
      comes = comes_to old new folder hosts n files left host g stands;
      file = refused.0;
      is = subst (λ c. IsCaptureAt old folder c refused.0) (sym is) (same_capture g.same folder (Some file) refused.0 refused.1);
      limit = subst (λ l. length refused.0 ≤ l) (left_is files left g.limit) refused.2;
      refused = refused.3;
    })

untaken_by : (old new : List ℕ → Held) (folder : List ℕ) (hosts : List Host) (n : ℕ) (files : List (List ℕ)) (left : ℕ) (host : Host) →
    Gathers old new folder hosts n files left → slice_get hosts n ≡ Some host → (capture : Option (List ℕ)) → host.capture ≡ capture → (e : Status) →
    IsUntaken new folder capture n left e → IsUngathered old folder hosts e
untaken_by old new folder hosts n files left host g stands None is status.OutOfMemory u = tt
untaken_by old new folder hosts n files left host g stands None is _ u = absurd u
untaken_by old new folder hosts n files left host g stands (Some file) is status.OutOfMemory u = tt
untaken_by old new folder hosts n files left host g stands (Some file) is (status.ReadFault name) u = record {
  n = n;
  host = host;
  comes = comes_to old new folder hosts n files left host g stands;
  file = file;
  names = is;
  is = u;
}
untaken_by old new folder hosts n files left host g stands (Some file) is (status.TooLong name) u = record {
  n = n;
  host = host;
  comes = comes_to old new folder hosts n files left host g stands;
  file = file;
  names = is;
  is = u.0;
  longer = subst (λ l. IsLonger (old name) l) (left_is files left g.limit) (same_longer g.same name left u.1);
}
untaken_by old new folder hosts n files left host g stands (Some file) is (status.BadCapture h e at) u =
    (refused_at old new folder hosts n files left host g stands file is h.0 (OfRecords e) u.0 u.2, u.1)
untaken_by old new folder hosts n files left host g stands (Some file) is (status.BadSection h e) u =
    refused_at old new folder hosts n files left host g stands file is h.0 (OfSections e) u.0 u.1
untaken_by old new folder hosts n files left host g stands (Some file) is _ u = absurd u

pub untaken : (old new : List ℕ → Held) (folder : List ℕ) (hosts : List Host) (n : ℕ) (files : List (List ℕ)) (left : ℕ) (host : Host) →
    Gathers old new folder hosts n files left → slice_get hosts n ≡ Some host → (e : Status) →
    IsUntaken new folder host.capture n left e → IsUngathered old folder hosts e
untaken old new folder hosts n files left host g stands e u = untaken_by old new folder hosts n files left host g stands host.capture refl e u

-- the next host's capture is read
pub gathers_on : (old mid new : List ℕ → Held) (folder : List ℕ) (hosts : List Host) (n : ℕ) (files : List (List ℕ)) (left : ℕ) (host : Host) (file : List ℕ) →
    Gathers old mid folder hosts n files left → Same mid new → slice_get hosts n ≡ Some host → IsCaptureAt mid folder host.capture file → IsCaptureFile file →
    length file ≤ left → Gathers old new folder hosts (n + 1) (files ++ file ∷ []) (left - length file)
gathers_on old mid new folder hosts n files left host file g same stands is read within = record {
  read = subst (λ hs. AreCaptures old folder hs (files ++ file ∷ [])) (sym (front_of hosts n host stands))
      (one_capture_more old folder (take n hosts) files host file g.read (same_capture g.same folder host.capture file is) read);
  limit = let limit = g.limit in let more = more_bytes files file in omega arith;
  same = λ q. same q ∙ g.same q;
}

-- there are as many captures as hosts
pub as_many : (held : List ℕ → Held) (folder : List ℕ) (hosts : List Host) (files : List (List ℕ)) → AreCaptures held folder hosts files → length files ≡ length hosts
as_many held folder [] [] are = refl
as_many held folder [] (file ∷ files) are = absurd are
as_many held folder (h ∷ hosts) [] are = absurd are
as_many held folder (h ∷ hosts) (file ∷ files) are = ap suc (as_many held folder hosts files are.2)
