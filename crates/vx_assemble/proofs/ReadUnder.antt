-- A slice header that was read under a picture header.
use Rattle.std.proofs.Common.{◌≡◌, ℕ, ◌<◌, List, length, refl, sym, ◌∙◌, ap, subst}
use Rattle.std.specs.Prelude.{Option, None}
use Rattle.vx_rpl.specs.HeaderLists.{lists_of}
use Rattle.vx_ph.specs.InForce.{in_force, structures}
use Rattle.vx_table.specs.Scope.{is_set}
use Rattle.vx_table.specs.Loaded.{number}
use Rattle.vx_fields.specs.declared.sh.TheConstants.{sh_picture_header_in_slice_header_flag, sh_slice_address}
use Rattle.vx_sh.specs.Whole.{At}
use Rattle.vx_sh.proofs.Told.{numbers_are_told}
use Rattle.vx_sh.proofs.Scopes.{slice_scopes_are_whole}
use Rattle.vx_sh.specs.declared.header.SliceHeader.{SliceHeader as SliceValue}
use Rattle.vx_sh.specs.declared.numbers.SliceNumbers.{SliceNumbers}
use Rattle.vx_pic.specs.Sets.{address_of}
use Rattle.vx_sh.specs.InForce.{in_force_at}
use Rattle.vx_pic.specs.Readings.{Begun}
use Rattle.vx_pic.specs.Parts.{IsReadAt, slice_header_of}
use Rattle.vx_assemble.specs.declared.state.BegunPicture.{BegunPicture}
use Rattle.vx_assemble.specs.inner.Held.{begun_of}
use Rattle.vx_assemble.specs.inner.Order.{IsHeader}
use Rattle.vx_assemble.specs.inner.Takes.{AreSmall, IsReadUnder, at_begun}
use Rattle.vx_assemble.specs.inner.Joining.{names_in}
use Rattle.vx_assemble.specs.inner.Answered.{AreOfBegun}

pub numbers_of : (n : SliceNumbers) (b : BegunPicture) (head : Option (List ℕ)) → IsHeader b → n.sps.now ≡ b.sets.sps → n.pps.now ≡ b.sets.pps
    → n.layout.now ≡ b.sets.layout → n.header.now ≡ b.header → n.ids.now ≡ b.sets.ids → AreOfBegun n (begun_of b head)
numbers_of n b head is sps pps layout header ids =
    record { sps = sps; pps = pps; layout = layout; header = header ∙ is.header; ids = ids ∙ is.sets.ids }

-- what is read is as its items tell it
told_read : (n : At) (b : Begun) (h : SliceValue) (payload : ℕ) → length n.slice ≡ 1024 → IsReadAt n h
    → h.lists ≡ lists_of (structures b.sps) (in_force b.sps b.pps) h.fields
    → h ≡ slice_header_of b (record { fields = h.fields; subpic = h.subpic; payload = payload })
unfolding address_of
told_read n b h payload whole read lists =
    let told = numbers_are_told n h.fields read.inside read.fields whole in
    let inside : h.inside ≡ is_set (number h.fields sh_picture_header_in_slice_header_flag) = read.numbers.inside ∙ ap is_set told.inside in
    let address : h.address ≡ number h.fields sh_slice_address = read.numbers.address ∙ told.address in
    rw (← inside, ← address, ← lists) refl

pub at_read : (t : ℕ) (n : SliceNumbers) (b : BegunPicture) (h : SliceValue) → IsHeader b → n.nal_type ≡ t → AreOfBegun n (begun_of b None)
    → IsReadAt (in_force_at n) h → IsReadAt (at_begun t b) h
at_read t n b h is kind of read =
    let same : in_force_at n ≡ at_begun t b = rw (kind, of.sps, of.pps, of.layout, of.header ∙ sym is.header, of.ids ∙ sym is.sets.ids) refl in
    subst (λ n. IsReadAt n h) same read

pub read_under : (b : BegunPicture) (t : ℕ) (h : SliceValue) (payload : ℕ) → IsHeader b → h.subpic < length b.sets.ids
    → h.lists ≡ lists_of (structures b.sets.sps) (in_force b.sets.sps b.sets.pps) h.fields
    → AreSmall (names_in b.sets.pps b.header.fields h.fields) → IsReadAt (at_begun t b) h → IsReadUnder b t (record { header = h; payload = payload })
read_under b t h payload is low lists small read =
    record {
      read = read;
      subpic = subst (λ m. h.subpic < m) is.sets.one_each low;
      header = told_read (at_begun t b) (begun_of b None) h payload (slice_scopes_are_whole t b.sets.sps b.sets.pps b.header) read lists;
      small = small;
    }
