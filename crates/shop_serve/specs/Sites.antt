-- What a site answers by itself: to requests of other sites and for other runs, for its page and its state, and for backups where none
-- are made.
use Rattle.std.specs.Prelude.{◌≡◌, ℕ, List, [], ◌++◌, length, Option, Some, None, Result, Err, Bool, true, false, string_bytes, codes, decimal}
use Rattle.shop_request.specs.declared.faults.RequestFault.TheVariants as faults
use Rattle.shop_request.specs.declared.guards.Verdict.{Verdict}
use Rattle.shop_request.specs.declared.guards.Verdict.TheVariants.{Routed, Forbidden, OtherRun, Page, Health, OnlyGet, NoBackups}
use Rattle.shop_serve.specs.declared.sites.Site.{Site}
use Rattle.shop_records.specs.declared.refusals.Refusal.TheVariants.{StoreFault}
use Rattle.shop_wire.specs.AnswerBytes.{answer_bytes, backup_answer, fault_answer}

-- its page has these bytes, or it has none
abbrev pub HasPage : Site → Option (List ℕ) → Type 0
HasPage site (Some bytes) = (site.guard.has_page ≡ true) × (site.page.items ≡ bytes)
HasPage site None = site.guard.has_page ≡ false

-- the answer to a request that a browser sent for a page of another site
abbrev pub forbidden_bytes : List ℕ
forbidden_bytes = codes "HTTP/1.1 403 Forbidden\r\nContent-Length: 0\r\nConnection: close\r\n\r\n"

-- what stands in a page's answer before and after its length
abbrev pub page_start : List ℕ
page_start = codes "HTTP/1.1 200 OK\r\nContent-Type: text/html; charset=utf-8\r\nContent-Length: "

abbrev pub page_fields : List ℕ
page_fields = codes "\r\nContent-Security-Policy: default-src 'none'; script-src 'unsafe-inline'; style-src 'unsafe-inline'; img-src data:; connect-src 'self'; base-uri 'none'; form-action 'none'; frame-ancestors 'none'\r\nX-Content-Type-Options: nosniff\r\nCache-Control: no-cache\r\nConnection: close\r\n\r\n"

abbrev pub page_bytes : List ℕ → List ℕ
page_bytes page = page_start ++ decimal (length page) ++ page_fields ++ page

-- the answer to a request that is for another run of the server
abbrev pub other_run_bytes : List ℕ
other_run_bytes = codes "HTTP/1.1 412 Precondition Failed\r\nContent-Length: 0\r\nConnection: close\r\n\r\n"

-- the state of a server whose store is good: how many entries it has, its run and its version
abbrev pub health_text : (entries : ℕ) → (run version : List ℕ) → List ℕ
health_text entries run version =
    codes "{\"entries\":" ++ decimal entries ++ codes ",\"ok\":\"health\",\"run\":\"" ++ run ++ codes "\",\"version\":\"" ++ version ++ codes "\"}"

-- the answer that is a text of JSON
abbrev pub json_bytes : List ℕ → List ℕ
json_bytes text =
    codes "HTTP/1.1 200 OK\r\nContent-Type: application/json\r\nContent-Length: " ++ decimal (length text) ++ codes "\r\nConnection: close\r\n\r\n" ++ text

-- the answer that reports the state of a server: how many entries its store has, or that it failed
abbrev pub health_bytes : Site → (entries : Option ℕ) → List ℕ
health_bytes site (Some entries) = json_bytes (health_text entries (string_bytes site.run) (string_bytes site.version))
health_bytes site None = answer_bytes (backup_answer (Err StoreFault))

-- whether a request goes to its route
abbrev pub is_routed : Verdict → Bool
is_routed Routed = true
is_routed _ = false

-- whether the state of the server is asked for
abbrev pub is_health : Verdict → Bool
is_health Health = true
is_health _ = false

-- what a site answers by itself, where its store has so many entries, or failed
abbrev pub own_bytes : Site → (entries : Option ℕ) → Verdict → List ℕ
own_bytes site entries Routed = []
own_bytes site entries Forbidden = forbidden_bytes
own_bytes site entries OtherRun = other_run_bytes
own_bytes site entries Page = page_bytes site.page.items
own_bytes site entries Health = health_bytes site entries
own_bytes site entries OnlyGet = answer_bytes (fault_answer faults.OnlyGet)
own_bytes site entries NoBackups = answer_bytes (fault_answer faults.NotFound)
