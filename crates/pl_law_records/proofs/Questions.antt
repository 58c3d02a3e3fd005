-- A question reports nothing, and ends no report; and a reply orders nothing.
use Rattle.pl_node.specs.declared.messages.ToManager.{ToManager}
use Rattle.pl_node.specs.declared.messages.ToSwitch.{ToSwitch}
use Rattle.pl_node.specs.declared.messages.ToSwitch.TheVariants as say
use Rattle.pl_world.specs.SettledQueues.{IsQuestion, IsReply}
use Rattle.pl_law_due.specs.Gathering.{IsNoEnd}
use Rattle.pl_law_records.specs.Words.{IsNoOrder, IsNoReport}
use Rattle.pl_node.specs.declared.messages.ToManager.TheVariants as tell

pub question_reports_nothing : (told : ToManager) → IsQuestion told → IsNoReport told
question_reports_nothing (tell.Place place) is = absurd is
question_reports_nothing (tell.Link neighbour usable) is = absurd is
question_reports_nothing tell.PodWanted is = absurd is
question_reports_nothing (tell.Learned pmac amac ip) is = absurd is
question_reports_nothing (tell.Aged pmac number) is = absurd is
question_reports_nothing (tell.Begin epoch) is = absurd is
question_reports_nothing (tell.End epoch) is = absurd is
question_reports_nothing (tell.Trapped trapped toward numbered) is = absurd is
question_reports_nothing (tell.Query asker asker_ip ip) is = tt
question_reports_nothing (tell.Members group any) is = absurd is

pub question_ends_none : (told : ToManager) → IsQuestion told → IsNoEnd told
question_ends_none (tell.End epoch) is = absurd is
question_ends_none (tell.Place place) is = tt
question_ends_none (tell.Link neighbour usable) is = tt
question_ends_none tell.PodWanted is = tt
question_ends_none (tell.Learned pmac amac ip) is = tt
question_ends_none (tell.Aged pmac number) is = tt
question_ends_none (tell.Begin epoch) is = tt
question_ends_none (tell.Trapped trapped toward numbered) is = tt
question_ends_none (tell.Query asker asker_ip ip) is = tt
question_ends_none (tell.Members group any) is = tt

pub reply_orders_nothing : (says : ToSwitch) → IsReply says → IsNoOrder says
reply_orders_nothing (say.Pod pod) is = absurd is
reply_orders_nothing (say.Answer asker asker_ip ip pmac) is = tt
reply_orders_nothing (say.Flood asker asker_ip ip) is = tt
reply_orders_nothing (say.Avoid list) is = absurd is
reply_orders_nothing (say.Invalidate old new number ip) is = absurd is
reply_orders_nothing (say.Release address) is = absurd is
reply_orders_nothing (say.Hello epoch) is = absurd is
reply_orders_nothing (say.Tree group part) is = absurd is
