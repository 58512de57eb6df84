-- SPDX-License-Identifier: MIT OR Apache-2.0
-- A name under which a life over literal octets computes.
use Rattle.octets.specs.Front.{octet_at, counted_at}
use Rattle.octets.specs.Walk.{walk}
use Rattle.rsl_codec.specs.RslReading.{elements_of, breaks_off, channel_only_at, link_at, data_at, error_at, establishment_at, release_at, channel_required_at, assignment_at, activation_at, activation_ack_at, failure_at, detection_at, measurement_result_at, message_at, rsl_reading}
use Rattle.rsl_codec.specs.RslText.{rsl_element_text}
use Rattle.rsl_codec.specs.RslType.{rsl_type}
use Rattle.bssmap_codec.specs.BssmapType.{bssmap_type}
use Rattle.bssmap_codec.specs.Reference.{reference_at, references_at}
use Rattle.bssmap_codec.specs.SccpReading.{part_at, option_at, data_in, user_data_at, request_at, fixed_references_at, refused_at, data_behind_at, data_form_at, sccp_reading}
use Rattle.bssmap_codec.specs.SccpType.{sccp_type}
use Rattle.bssmap_codec.specs.BssapReading.{elements_of as bssap_elements_of, breaks_off as bssap_breaks_off, needed_value, needed_octet, rr_cause_in, layer3_at, cause_at, assignment_request_at, assignment_complete_at, assignment_failure_at, handover_performed_at, reject_at, complete_layer3_at, message_at as bssap_message_at, management_at, transfer_at, bssap_reading}
use Rattle.dtap_codec.specs.RrReading.{three_at, handover_command_at, assignment_command_at, cause_at as rr_cause_at, immediate_assignment_at, measurement_report_at, typed_at, pseudo_at, rr_reading}
use Rattle.dtap_codec.specs.RrType.{rr_type}
use Rattle.conn_rules.specs.Table.{row_of}
use Rattle.conn_messages.specs.Out.{out_of}
use Rattle.controller_model.specs.Reading.{word_of}
use Rattle.controller_model.specs.Reports.{report_reading}
use Rattle.controller_model.specs.Life.{take, tick, life}
use Rattle.controller_model.specs.Views.{forwarded, handed}

unfoldable pub on_literals : Unit {0}
unfolding octet_at counted_at walk elements_of breaks_off channel_only_at link_at data_at error_at establishment_at release_at channel_required_at assignment_at activation_at activation_ack_at failure_at detection_at measurement_result_at message_at rsl_reading rsl_element_text rsl_type bssmap_type reference_at references_at part_at option_at data_in user_data_at request_at fixed_references_at refused_at data_behind_at data_form_at sccp_reading sccp_type bssap_elements_of bssap_breaks_off needed_value needed_octet rr_cause_in layer3_at cause_at assignment_request_at assignment_complete_at assignment_failure_at handover_performed_at reject_at complete_layer3_at bssap_message_at management_at transfer_at bssap_reading three_at handover_command_at assignment_command_at rr_cause_at immediate_assignment_at measurement_report_at typed_at pseudo_at rr_reading rr_type row_of out_of word_of report_reading take tick life forwarded handed
on_literals = tt
