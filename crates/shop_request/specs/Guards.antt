-- What a server does with a request by its head alone: which ones a browser sent for a page of another site, which are for another
-- run of the server, and which are for the page, for its state, or for a backup where none are made.
use Rattle.std.specs.Prelude.{◌≡◌, ℕ, ◌&&◌, ◌||◌, not, Bool, true, false, List, map, Result, Ok, Err, String, string_bytes, bytes_eq, codes, if◌then◌else◌}
use Rattle.std.specs.declared.alloc.Global.{Global}
use Rattle.std.specs.List.{list_any}
use Rattle.httparse.specs.Grammar.{RequestHead}
use Rattle.httparse.specs.Spans.{name_and_value}
use Rattle.shop_request.specs.declared.faults.RequestFault.{RequestFault}
use Rattle.shop_request.specs.declared.addresses.Address.{Address}
use Rattle.shop_request.specs.declared.guards.Guard.{Guard}
use Rattle.shop_request.specs.declared.guards.Mark.{Mark}
use Rattle.shop_request.specs.declared.guards.Mark.TheVariants.{Site, Origin, Host, Run}
use Rattle.shop_request.specs.declared.guards.Verdict.{Verdict}
use Rattle.shop_request.specs.declared.guards.Verdict.TheVariants.{Routed, Forbidden, OtherRun, Page, Health, OnlyGet, NoBackups}
use Rattle.shop_request.specs.Addresses.{has_others, own_hosts, own_origins, quoted_run}
use Rattle.shop_request.specs.Heads.{Pair, HasHead, values_of, has_hosts, is_some_list, said_length}
use Rattle.shop_request.specs.Routes.{path_of}

-- the guard of what is reached at an address: whether it has a page, and whether backups are made; the values that fields of its own
-- have; and whether the host is judged, which it is with a page, and where others have names or origins for it
pub record IsGuardOf (address : Address) (has_page has_backups : Bool) (run : List ℕ) (guard : Guard) : Type 0 where
  pub of_page : guard.has_page ≡ has_page
  pub of_backups : guard.has_backups ≡ has_backups
  pub of_host : guard.judges_host ≡ (has_page || has_others address)
  pub its_hosts : map string_bytes guard.hosts.items ≡ own_hosts address
  pub its_origins : map string_bytes guard.origins.items ≡ own_origins address
  pub its_run : string_bytes guard.quoted_run ≡ quoted_run run

-- the fields that say of whom a request is, and which run of the server it is for
abbrev pub mark_name : Mark → List ℕ
mark_name Site = codes "sec-fetch-site"
mark_name Origin = codes "origin"
mark_name Host = codes "host"
mark_name Run = codes "if-match"

-- a value is one of a server's own
abbrev pub is_own : List (String Global) → List ℕ → Bool
is_own own value = list_any (λ text. bytes_eq value (string_bytes text)) own

-- a value of such a field that no browser sends for a page of this server, or of one that names another run
abbrev pub is_foreign_as : Guard → Mark → List ℕ → Bool
is_foreign_as guard Site value = not (bytes_eq value (codes "same-origin")) && not (bytes_eq value (codes "none"))
is_foreign_as guard Origin value = not (is_own guard.origins.items value)
is_foreign_as guard Host value = not (is_own guard.hosts.items value)
is_foreign_as guard Run value = not (bytes_eq value (string_bytes guard.quoted_run))

-- some field of that name has such a value
abbrev pub has_foreign : Guard → Mark → List Pair → Bool
has_foreign guard mark fields = list_any (is_foreign_as guard mark) (values_of (mark_name mark) fields)

-- a request that a browser sent for a page of another site, or where the host is judged, under a name that isn't the server's
abbrev pub is_cross_site : Guard → List Pair → Bool
is_cross_site guard fields = has_foreign guard Site fields || has_foreign guard Origin fields || guard.judges_host && has_foreign guard Host fields

abbrev pub is_good : {X Y : Type 0} → Result X Y → Bool
is_good (Ok x) = true
is_good (Err y) = false

-- the hosts, the codings and the lengths are those of a request
abbrev pub has_good_fields : (minor : ℕ) → List Pair → Bool
has_good_fields minor fields =
    has_hosts minor (values_of (codes "host") fields) && not (is_some_list (values_of (codes "transfer-encoding") fields))
    && is_good (said_length (values_of (codes "content-length") fields))

-- the page is only read
abbrev pub of_page : List ℕ → Verdict
of_page method = if bytes_eq method (codes "GET") then Page else OnlyGet

-- so is the state of the server
abbrev pub of_health : List ℕ → Verdict
of_health method = if bytes_eq method (codes "GET") then Health else OnlyGet

-- what is done with a request, by the parts of its head
abbrev pub checked_parts : Guard → (method target : List ℕ) (minor : ℕ) → List Pair → Verdict
checked_parts guard method target minor fields =
    if not (has_good_fields minor fields) then Routed
    else if is_cross_site guard fields then Forbidden
    else if has_foreign guard Run fields then OtherRun
    else if guard.has_page && bytes_eq (path_of target) (codes "/") then of_page method
    else if bytes_eq (path_of target) (codes "/health") then of_health method
    else if not guard.has_backups && bytes_eq (path_of target) (codes "/backup") then NoBackups
    else Routed

unfoldable pub checked_head : Guard → RequestHead → Verdict
checked_head guard h = checked_parts guard h.method h.target h.minor (map name_and_value h.fields)

-- a bad head goes where its fault is reported
abbrev pub checked : Guard → Result RequestHead RequestFault → Verdict
checked guard (Ok h) = checked_head guard h
checked guard (Err f) = Routed

-- what is done with an input
abbrev pub HasVerdict : Guard → List ℕ → Verdict → Type 0
HasVerdict guard input r = (head : Result RequestHead RequestFault) × HasHead input head × (r ≡ checked guard head)

-- two verdicts on an input are one
abbrev pub OneVerdict : Type 0
OneVerdict = (guard : Guard) (input : List ℕ) (r s : Verdict) → HasVerdict guard input r → HasVerdict guard input s → r ≡ s
