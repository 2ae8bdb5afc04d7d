use Rattle.std.proofs.Common.{subst}
use Rattle.std.specs.Prelude.{string_bytes}
use Rattle.jiff.specs.Strtime.{StrftimeGives}
use Rattle.jiff_strtime.specs.Text.{IsInstantParts}
use Rattle.shop_times.specs.Times.{time_format}
use Rattle.shop_times.proofs.text_of.Goals as goal

pub returns-in-Ok : goal.returns-in-Ok
returns-in-Ok c =
    let given = subst (λ format. StrftimeGives string_bytes format (IsInstantParts c.args.instant.nanosecond) c.strftime.result) c.as_bytes.ensures.value c.strftime.ensures in
    subst (StrftimeGives string_bytes time_format (IsInstantParts c.args.instant.nanosecond)) c.in-Ok.is given
