-- Where a server is reached, and the values that the fields of requests for it have: its hosts, the origins of its pages, its run.
use Rattle.std.specs.Prelude.{ℕ, ◌==◌, ◌||◌, not, Bool, List, [], ◌∷◌, ◌++◌, length, map, codes, decimal, nat_lt, if◌then◌else◌}
use Rattle.std.specs.Borrow.{Bor}
use Rattle.std.specs.List.{after_first, before_first, flat_map, position_or_len}
use Rattle.shop_request.specs.declared.addresses.Address.{Address}

-- the texts that are borrowed
abbrev pub texts_of : List (Bor (List ℕ)) → List (List ℕ)
texts_of texts = map (λ text. text.now) texts

-- the hosts that each machine has for itself
abbrev pub local_hosts : List (List ℕ)
local_hosts = codes "127.0.0.1" ∷ codes "localhost" ∷ codes "[::1]" ∷ []

-- a host, alone and with a port
abbrev pub with_port : (port : ℕ) (host : List ℕ) → List (List ℕ)
with_port port host = host ∷ (host ++ codes ":" ++ decimal port) ∷ []

-- what stands behind the two slashes of an origin: a host, and a port or none
abbrev pub authority_of : (origin : List ℕ) → List ℕ
authority_of origin = after_first (λ b. b == 47) (after_first (λ b. b == 47) origin)

-- a host without its port: up to its bracket, where it has one, else up to its colon
abbrev pub bare_host : (authority : List ℕ) → List ℕ
bare_host authority =
    if nat_lt (position_or_len (λ b. b == 93) authority) (length authority) then before_first (λ b. b == 93) authority ++ codes "]"
    else before_first (λ b. b == 58) authority

-- the hosts of an origin: with its own port, alone, and with a port
abbrev pub hosts_of : (port : ℕ) (origin : List ℕ) → List (List ℕ)
hosts_of port origin = authority_of origin ∷ with_port port (bare_host (authority_of origin))

-- the values of `Host` in a request for what is reached there: its names, alone and with its port, and the hosts of its origins
abbrev pub own_hosts : Address → List (List ℕ)
own_hosts a =
    flat_map (with_port a.port) local_hosts ++ flat_map (with_port a.port) (texts_of a.hosts.now) ++ flat_map (hosts_of a.port) (texts_of a.origins.now)

-- the values of `Origin` in a request of a page that is read there: this machine with the port, and its origins
abbrev pub own_origins : Address → List (List ℕ)
own_origins a =
    (codes "http://127.0.0.1:" ++ decimal a.port) ∷ (codes "http://localhost:" ++ decimal a.port) ∷ texts_of a.origins.now

-- others have names or origins for it
abbrev pub has_others : Address → Bool
has_others a = not (length a.hosts.now == 0) || not (length a.origins.now == 0)

-- a run of the server, as a field names it
abbrev pub quoted_run : List ℕ → List ℕ
quoted_run run = codes "\"" ++ run ++ codes "\""
