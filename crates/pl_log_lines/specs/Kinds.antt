-- What the lines below an event speak of.
use Rattle.std.specs.Prelude.{ℕ, List, [], ◌∷◌, codes}
use Rattle.pl_log_lines.specs.declared.kind.Kind.{Kind}
use Rattle.pl_log_lines.specs.declared.kind.Kind.TheVariants as kind

abbrev pub kind_text : Kind → List ℕ
kind_text kind.Ldm = codes "ldm"
kind_text kind.Proposal = codes "proposal"
kind_text kind.Vote = codes "vote"
kind_text kind.Unread = codes "unread"
kind_text kind.Frame = codes "frame"
kind_text kind.Place = codes "place"
kind_text kind.Link = codes "link"
kind_text kind.PodWanted = codes "podwanted"
kind_text kind.Learned = codes "learned"
kind_text kind.Aged = codes "aged"
kind_text kind.Begin = codes "begin"
kind_text kind.End = codes "end"
kind_text kind.Trapped = codes "trapped"
kind_text kind.Query = codes "query"
kind_text kind.Members = codes "members"
kind_text kind.Pod = codes "pod"
kind_text kind.Answer = codes "answer"
kind_text kind.Flood = codes "flood"
kind_text kind.Avoid = codes "avoid"
kind_text kind.Invalidate = codes "invalidate"
kind_text kind.Release = codes "release"
kind_text kind.Hello = codes "hello"
kind_text kind.Tree = codes "tree"
kind_text kind.Grant = codes "grant"
kind_text kind.Free = codes "free"
kind_text kind.Make = codes "make"
kind_text kind.Redirect = codes "redirect"
kind_text kind.Pass = codes "pass"
kind_text kind.Take = codes "take"
kind_text kind.Drop = codes "drop"
kind_text kind.Number = codes "number"
kind_text kind.Port = codes "port"
kind_text kind.Silent = codes "silent"
kind_text kind.Attempt = codes "attempt"
kind_text kind.Granted = codes "granted"
kind_text kind.Hold = codes "hold"
kind_text kind.Below = codes "below"

abbrev pub all_kinds : List Kind
all_kinds =
    kind.Ldm ∷ kind.Proposal ∷ kind.Vote ∷ kind.Unread ∷ kind.Frame ∷ kind.Place ∷ kind.Link ∷ kind.PodWanted ∷ kind.Learned ∷ kind.Aged ∷ kind.Begin ∷ kind.End
    ∷ kind.Trapped ∷ kind.Query ∷ kind.Members ∷ kind.Pod ∷ kind.Answer ∷ kind.Flood ∷ kind.Avoid ∷ kind.Invalidate ∷ kind.Release ∷ kind.Hello ∷ kind.Tree ∷ kind.Grant
    ∷ kind.Free ∷ kind.Make ∷ kind.Redirect ∷ kind.Pass ∷ kind.Take ∷ kind.Drop ∷ kind.Number ∷ kind.Port ∷ kind.Silent ∷ kind.Attempt
    ∷ kind.Granted ∷ kind.Hold ∷ kind.Below ∷ []
