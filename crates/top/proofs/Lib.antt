mod Values
mod Keys
mod DefaultKeys
mod Tags
mod Parts
